-- What a picture needs of a stream's units.
use Rattle.std.specs.Prelude.{◌≡◌, ℕ, ◌<◌, ◌↔◌, List, [], ◌∷◌, Contains, Some, slice_get}
use Rattle.unit_outcomes.specs.declared.outcome.Outcome.{Outcome}
use Rattle.unit_outcomes.specs.declared.outcome.Outcome.TheVariants as outcomes
use Rattle.unit_outcomes.specs.declared.outcome.Plan.{Plan}
use Rattle.decode_jobs.specs.Keys.{named_by_all}

-- the unit at a place is valid and has the id
abbrev pub IsValid : List (ℕ × Outcome) → ℕ → ℕ → Type 0
IsValid units at id = (plan : Plan) × (slice_get units at ≡ Some (id, outcomes.Plan plan))

-- the unit at a place is valid, and an entry of its lists has the id
abbrev pub Lists : List (ℕ × Outcome) → ℕ → ℕ → Type 0
Lists units at id =
    (own : ℕ) × (plan : Plan) × (slice_get units at ≡ Some (own, outcomes.Plan plan))
    × Contains (named_by_all plan.requests) (Some id)

-- the lists of the unit at one place name that at another: they have the id of it, the last valid
-- unit of that id before the one that names it
pub record Names (units : List (ℕ × Outcome)) (at other : ℕ) : Type 0 where
  pub id : ℕ
  pub listed : Lists units at id
  pub before : other < at
  pub valid : IsValid units other id
  pub last : (place : ℕ) → other < place → place < at → IsValid units place id → ⊥

-- the least set of places that has this one and, with each of its places, each one that the lists
-- of its unit name, of those whose units wait for their pictures
pub data IsNeeded (units : List (ℕ × Outcome)) (Waits : ℕ → Type 0) (target : ℕ) : ℕ → Type 0 where
  itself : Waits target → IsNeeded units Waits target target
  named : (at other : ℕ) → IsNeeded units Waits target at → Names units at other → Waits other
      → IsNeeded units Waits target other

-- places fall: each is above all behind it
abbrev pub AreFalling : List ℕ → Type 0
AreFalling [] = Unit {0}
AreFalling (place ∷ key_slots) = ((other : ℕ) → Contains key_slots other → other < place) × AreFalling key_slots

-- these are the places of the set, the last one first
pub record AreNeeded (units : List (ℕ × Outcome)) (Waits : ℕ → Type 0) (target : ℕ) (key_slots : List ℕ) : Type 0 where
  pub falling : AreFalling key_slots
  pub are : (at : ℕ) → Contains key_slots at ↔ IsNeeded units Waits target at
