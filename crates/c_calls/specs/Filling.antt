-- Bytes and texts that are written into a caller's buffer.
use Rattle.std.specs.Prelude.{◌≡◌, ◌<◌, ◌≤◌, ◌⊎◌, ◌++◌, ℕ, List, length, drop}
use Rattle.c_calls.specs.Statuses.{done, too_small}

-- the buffer's first bytes are these, or it has too little room and stays as it was; how many there
-- are is told either way
pub record Fills (bytes : List ℕ) (status : ℕ) (old new : List ℕ) (needed : ℕ) : Type 0 where
  pub needed_is : needed ≡ length bytes
  pub filled :
      ((length bytes ≤ length old) × (status ≡ done) × (new ≡ bytes ++ drop (length bytes) old))
      ⊎ ((length old < length bytes) × (status ≡ too_small) × (new ≡ old))
