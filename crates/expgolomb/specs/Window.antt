-- A word of 64 bits as a window on the bits at a place.
use Rattle.std.specs.Prelude.{◌≡◌, ℕ, Bool, false, List, ◌++◌, length, take, replicate}
use Rattle.expgolomb.specs.Bits.{number}

-- The word begins with the next 57 bits, and with zeros where they end before: eight bytes less the bits of the
-- first that were read.
pub record IsWindow (rest : List Bool) (word : ℕ) : Type 0 where
  pub bits : List Bool
  pub long : length bits ≡ 64
  pub value : word ≡ number bits
  pub front : take 57 bits ≡ take 57 (rest ++ replicate 64 false)
