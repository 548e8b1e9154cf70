-- Units of a stream as they are compared.
use Rattle.std.specs.Prelude.{◌≡◌, ℕ, ◌==◌, ◌≤◌, List, [], ◌∷◌, length, Option, None, Some, count_by}
use Rattle.unit_outcomes.specs.Numbers.{number_of}
use Rattle.unit_outcomes.specs.declared.outcome.Outcome.{Outcome}
use Rattle.unit_outcomes.specs.declared.outcome.Outcome.TheVariants.{Plan, Fault, Empty}
use Rattle.picture_keys.specs.declared.changed_units.columns.UnitColumns.{UnitColumns}

-- a unit: its id, its key where it is valid, and the number of its fault where it has one
pub record ComparedUnit (K : Type 0) : Type 0 where
  pub id : ℕ
  pub key : Option K
  pub fault : Option ℕ

-- the number of the fault of an outcome
abbrev pub fault_of : Outcome → Option ℕ
fault_of (Plan plan) = None
fault_of (Fault fault) = Some (number_of fault)
fault_of Empty = None

module _ {K : Type 0} where
  -- a unit by its key, or else by its fault, if it has one
  abbrev pub compared : ℕ → Outcome → Option K → ComparedUnit K
  compared id outcome (Some key) = record { id = id; key = Some key; fault = None }
  compared id outcome None = record { id = id; key = None; fault = fault_of outcome }

  -- the units of three columns: ids, outcomes, and keys, nothing for a unit that isn't valid
  abbrev pub compared_units : List ℕ → List Outcome → List (Option K) → List (ComparedUnit K)
  compared_units [] outcomes keys = []
  compared_units (id ∷ ids) [] keys = []
  compared_units (id ∷ ids) (outcome ∷ outcomes) [] = []
  compared_units (id ∷ ids) (outcome ∷ outcomes) (key ∷ keys) = compared id outcome key ∷ compared_units ids outcomes keys

-- the units of these columns, their keys by their numbers
abbrev pub units_in : UnitColumns → List (ComparedUnit ℕ)
units_in columns = compared_units columns.ids.now columns.outcomes.now columns.numbers.now

-- the columns are of one length
abbrev pub AreAligned : UnitColumns → Type 0
AreAligned columns =
    (length columns.outcomes.now ≡ length columns.ids.now) × (length columns.numbers.now ≡ length columns.ids.now)

-- no id is there twice
abbrev pub AreDifferent : List ℕ → Type 0
AreDifferent ids = (id : ℕ) → count_by (λ other. other == id) ids ≤ 1
