-- The places of needed units that were found, from the last one on.
use Rattle.std.specs.Prelude.{ℕ, ◌<◌, ◌≤◌, List, ◌⊎◌, Contains}
use Rattle.unit_outcomes.specs.declared.outcome.Outcome.{Outcome}
use Rattle.held_pictures.specs.Needed.{AreFalling, IsNeeded, IsValid, Lists, Names}

-- from the place of the target down to this one the needed units are found, the last one first, and
-- no others; these ids are wanted: those that their lists have of waiting units further down, and
-- none that was met
pub record IsScanned (units : List (ℕ × Outcome)) (Waits : ℕ → Type 0) (target at : ℕ) (wanted needed : List ℕ) : Type 0 where
  pub begun : Contains needed target
  pub needs : (place : ℕ) → Contains needed place → IsNeeded units Waits target place
  pub above : (place : ℕ) → Contains needed place → at ≤ place
  pub falling : AreFalling needed
  pub listed : (id : ℕ) → Contains wanted id
      → (place : ℕ) × Contains needed place × Lists units place id
      × ((other : ℕ) → at ≤ other → other < place → IsValid units other id → ⊥)
  pub closed : (place other : ℕ) → Contains needed place → (names : Names units place other) → Waits other
      → Contains needed other ⊎ ((other < at) × Contains wanted names.id)
