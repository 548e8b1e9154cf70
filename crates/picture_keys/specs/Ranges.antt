-- The least range of places that has all units that changed.
use Rattle.std.specs.Prelude.{◌≡◌, ℕ, ◌+◌, ◌-◌, ◌<◌, ◌≤◌, ◌==◌, List, Some, Contains, slice_get, if◌then◌else◌}
use Rattle.picture_keys.specs.declared.changed_units.changed.Changed.{Changed}
use Rattle.picture_keys.specs.Units.{ComparedUnit}

module _ {K : Type 0} where
  -- a unit changed: none of those before had its id and was of its kind, with its key or its fault
  abbrev pub IsChanged : List (ComparedUnit K) → ComparedUnit K → Type 0
  IsChanged before unit = Contains before unit → ⊥

  -- the unit at a place did
  abbrev pub IsChangedAt : List (ComparedUnit K) → List (ComparedUnit K) → ℕ → Type 0
  IsChangedAt before after at = (unit : ComparedUnit K) × (slice_get after at ≡ Some unit) × IsChanged before unit

  -- the range has every unit that changed, and its first and its last one did; where none changed
  -- it is 0 and 0
  pub record IsLeast (before after : List (ComparedUnit K)) (changed : Changed) : Type 0 where
    pub covers : (at : ℕ) → IsChangedAt before after at → (changed.from ≤ at) × (at < changed.from + changed.count)
    pub first : 0 < changed.count → IsChangedAt before after changed.from
    pub last : 0 < changed.count → IsChangedAt before after (changed.from + changed.count - 1)
    pub none : changed.count ≡ 0 → changed.from ≡ 0

-- the range of no unit
abbrev pub no_units : Changed
no_units = record { from = 0; count = 0 }

-- a range with the unit at a place behind it
abbrev pub with_unit : Changed → ℕ → Changed
with_unit changed at =
    if changed.count == 0
    then record { from = at; count = 1 }
    else record { from = changed.from; count = at - changed.from + 1 }
