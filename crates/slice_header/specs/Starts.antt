-- The first bytes of a unit's payload, which most slice headers don't leave.
use Rattle.std.specs.Prelude.{◌≡◌, ◌≤◌, ℕ, List, take}
use Rattle.annexb.specs.EmulationPrevention.{payload_of}

-- the first 64 bytes of a unit's payload, or all of them
abbrev pub start_of : List ℕ → List ℕ
start_of unit = take 64 (payload_of unit)

-- so many of these bytes are the first of a unit's payload
pub record HoldsStart (bytes : List ℕ) (len : ℕ) (unit : List ℕ) : Type 0 where
  pub few : len ≤ 64
  pub begins : take len bytes ≡ start_of unit
