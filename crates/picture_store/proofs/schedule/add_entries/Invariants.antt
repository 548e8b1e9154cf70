use Rattle.std.proofs.Common.{◌≡◌, ℕ, ◌⊎◌, Contains, Some, take}
use Rattle.held_pictures.specs.Held.{IsHeld}
use Rattle.picture_store.specs.Schedules.{WaitsFor}
use Rattle.picture_store.proofs.schedule.add_entries.Given as goal

-- the unit waits for the keys of the entries so far
abbrev pub invariant-loop-entry : goal.invariant-loop-entry
invariant-loop-entry g l =
    record {
      stay : (place entry : ℕ) → WaitsFor l.fn.dependents.items place entry → WaitsFor l.dependents.items place entry;
      only : (place entry : ℕ) → WaitsFor l.dependents.items place entry
          → WaitsFor l.fn.dependents.items place entry ⊎ (l.at ≡ place);
      all : (entry : ℕ) → Contains (take l.entry-index l.entries) (Some entry) → (IsHeld l.key_slots entry → ⊥)
          → WaitsFor l.dependents.items l.at entry;
    }
