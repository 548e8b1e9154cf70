-- Texts that grow.
use Rattle.std.specs.Prelude.{◌≡◌, ℕ, ◌++◌, List}

-- the text grew by these bytes
pub record Grows (old new bytes : List ℕ) : Type 0 where
  pub by : new ≡ old ++ bytes
