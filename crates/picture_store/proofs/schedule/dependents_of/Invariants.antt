use Rattle.std.proofs.Common.{ℕ, Contains, take}
use Rattle.held_pictures.specs.Held.{IsHeld}
use Rattle.picture_store.specs.Schedules.{RefersTo, WaitsFor}
use Rattle.picture_store.proofs.schedule.dependents_of.Given as goal

-- the units so far wait for all to which they refer, and no others do
abbrev pub invariant-loop-at : goal.invariant-loop-at
invariant-loop-at g l =
    record {
      listed : (at entry : ℕ) → Contains (take l.at-index l.needed) at → RefersTo l.units.keys.now l.units.numbers.now at entry
          → (IsHeld l.units.key_slots.now entry → ⊥) → WaitsFor l.dependents.items at entry;
      those : (at entry : ℕ) → WaitsFor l.dependents.items at entry → Contains l.needed at;
    }
