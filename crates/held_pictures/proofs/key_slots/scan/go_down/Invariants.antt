use Rattle.std.proofs.Common.{ℕ, ◌≤◌}
use Rattle.std.specs.List.{zip}
use Rattle.held_pictures.specs.Held.{IsWaiting}
use Rattle.held_pictures.specs.Scanned.{IsScanned}
use Rattle.held_pictures.proofs.key_slots.scan.go_down.Given as goal

-- the places from this one on were gone over
abbrev pub invariant-loop-at : goal.invariant-loop-at
invariant-loop-at g l =
    record {
      within : l.at ≤ l.from;
      scanned : (target : ℕ)
          → IsScanned (zip l.units.ids.now l.units.outcomes.now) (IsWaiting l.units.numbers.now l.units.key_slots.now) target l.from
          l.fn.scan.wanted.items l.fn.scan.needed.items
          → IsScanned (zip l.units.ids.now l.units.outcomes.now) (IsWaiting l.units.numbers.now l.units.key_slots.now) target l.at
          l.scan.wanted.items l.scan.needed.items;
    }

abbrev pub decreases-loop-at : goal.decreases-loop-at
decreases-loop-at g l = l.at
