-- Ids of a stream's units, in any order.
use Rattle.std.specs.Prelude.{ℕ, ◌==◌, ◌<◌, ◌≤◌, List, map, count_by}

-- the ids of units with their texts
abbrev pub ids_of : List (ℕ × List ℕ) → List ℕ
ids_of units = map (λ unit. unit.0) units

-- how many of the ids are this one
abbrev pub times : List ℕ → ℕ → ℕ
times ids id = count_by (λ other. other == id) ids

-- each id stands once and was given: it is 1 or more, and not above the number of ids given
pub record AreIds (ids : List ℕ) (ids_given : ℕ) : Type 0 where
  pub once : (id : ℕ) → times ids id ≤ 1
  pub given : (id : ℕ) → 0 < times ids id → (0 < id) × (id ≤ ids_given)
