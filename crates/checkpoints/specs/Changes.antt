-- What becomes of stored states where a range of the stream is changed.
use Rattle.std.specs.Prelude.{ℕ, ◌+◌, ◌-◌, ◌<◌, ◌≤◌, ◌^◌, ◌||◌, Bool, List, Contains, map, filter, nat_lt, nat_le, if◌then◌else◌}
use Rattle.checkpoints.specs.declared.shifting.LengthChange.{LengthChange}
use Rattle.checkpoints.specs.declared.shifting.LengthChange.TheVariants.{Longer, Shorter}

-- the place that a place comes to, where what is before it changes its length
abbrev pub changed : LengthChange → ℕ → ℕ
changed (Longer by) place = place + by
changed (Shorter by) place = place - by

-- where a place is after the change, which ends at `from`
abbrev pub moved : ℕ → LengthChange → ℕ → ℕ
moved from change place = if nat_lt place from then place else changed change place

-- no place leaves the range of places, and no two meet
abbrev pub CanShift : ℕ → LengthChange → List ℕ → Type 0
CanShift from (Longer by) places = (place : ℕ) → Contains places place → from ≤ place → place + by < 2 ^ 64
CanShift from (Shorter by) places =
    (place other : ℕ) → Contains places place → Contains places other → place < from → from ≤ other → place + by < other

-- the place stays in the range of places
abbrev pub IsMovable : ℕ → LengthChange → ℕ → Type 0
IsMovable from (Longer by) place = from ≤ place → place + by < 2 ^ 64
IsMovable from (Shorter by) place = from ≤ place → by ≤ place

-- whether a place is kept where those above `low` and below `high` are dropped
abbrev pub is_kept : ℕ → ℕ → ℕ → Bool
is_kept low high place = nat_le place low || nat_le high place

module _ {S : Type 0} where
  -- the states at their places after the change
  abbrev pub shifted : ℕ → LengthChange → List (ℕ × S) → List (ℕ × S)
  shifted from change states = map (λ e. (moved from change e.0, e.1)) states

  -- the states without those at places above `low` and below `high`
  abbrev pub cut : ℕ → ℕ → List (ℕ × S) → List (ℕ × S)
  cut low high states = filter (λ e. is_kept low high e.0) states
