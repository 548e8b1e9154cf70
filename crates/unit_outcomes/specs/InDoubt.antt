-- Pictures that may be made of other frames than their encoder meant.
use Rattle.std.specs.Prelude.{◌≡◌, ℕ, ◌+◌, ◌<◌, ◌≤◌, ◌↔◌, List, length, Option, None, Some, IsTrue, MatchOption, slice_index_or}
use Rattle.unit_outcomes.specs.SeenUnits.{BreaksAt, HasId, IsIdrAt, SeenUnit}
use Rattle.unit_outcomes.specs.Entries.{Lists}
use Rattle.unit_outcomes.specs.Breaks.{Follows, Lasts}
use Rattle.unit_outcomes.specs.declared.doubts.walk.Doubt.{Doubt}

-- an entry of the unit at a place names the earlier unit of its id, where no valid IDR picture stands
-- behind that one, up to the unit of the entry itself (8.2.5.1: it unmarks all frames)
pub record Names (units : List SeenUnit) (at other id : ℕ) : Type 0 where
  pub listed : Lists units at (Some id)
  pub has_id : HasId units other id
  pub before : other < at
  pub no_idr : (place : ℕ) → other < place → place ≤ at → IsIdrAt units place → ⊥

-- an entry of the unit at a place is missing: it names nothing, or no such unit
abbrev pub IsMissing : List SeenUnit → ℕ → Option ℕ → Type 0
IsMissing units at None = Unit {0}
IsMissing units at (Some id) = (other : ℕ) → Names units at other id → ⊥

-- the least set of places of valid units such that one is in it where an entry of its lists names a
-- unit that is in it, names one with a break between that and itself, or is missing while the unit
-- follows a break
pub data InDoubt (units : List SeenUnit) : ℕ → Type 0 where
  names_doubt : (at other id : ℕ) → Names units at other id → InDoubt units other → InDoubt units at
  names_before_break : (at other broken id : ℕ) → Names units at other id → other < broken → broken < at
      → BreaksAt units broken → InDoubt units at
  misses : (at broken : ℕ) (named : Option ℕ) → Lists units at named → IsMissing units at named
      → Follows units at broken → InDoubt units at

-- no two units have one id
abbrev pub IdsDiffer : List SeenUnit → Type 0
IdsDiffer units = (at other id : ℕ) → HasId units at id → HasId units other id → at ≡ other

-- the id is that of the break that the unit at a place follows; none where it follows none
abbrev pub IsFollowed : List SeenUnit → ℕ → Option ℕ → Type 0
IsFollowed units at follows = MatchOption follows
    ((broken : ℕ) → Lasts units broken at → ⊥)
    (λ id. (broken : ℕ) × Follows units at broken × HasId units broken id)

-- what is told of the unit at a place is so
pub record IsDoubt (units : List SeenUnit) (at : ℕ) (doubt : Doubt) : Type 0 where
  pub follows : IsFollowed units at doubt.follows
  pub in_doubt : IsTrue doubt.in_doubt ↔ InDoubt units at

-- what is told of each unit from a place on is so
pub record AreDoubts (units : List SeenUnit) (from count : ℕ) (doubts : List Doubt) : Type 0 where
  pub long : length doubts ≡ count
  pub each : (k : ℕ) (none : Doubt) → k < count → IsDoubt units (from + k) (slice_index_or doubts k none)
