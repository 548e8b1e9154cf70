use Rattle.std.proofs.Common.{◌≤◌, ◌++◌, ℕ, List, length, take}
use Rattle.std.specs.List.{zip}
use Rattle.unit_outcomes.specs.declared.outcome.Outcome.{Outcome}
use Rattle.decode_jobs.specs.KeyMaps.{Extends, IsKeyMap}
use Rattle.picture_keys.specs.Following.{AreNumberedSome, Follow}
use Rattle.picture_keys.specs.Known.{Known}
use Rattle.picture_store.proofs.refitting.go_over.Given as goal

abbrev pub invariant-loop-at : goal.invariant-loop-at
invariant-loop-at g l =
    record {
      stay : Extends l.initial.keys l.keys;
      one : IsKeyMap l.initial.keys → IsKeyMap l.keys;
      within : l.at ≤ length l.ids;
      some : AreNumberedSome l.keys l.units.numbers;
      follow : (known : Known) (before : List (ℕ × Outcome)) → Follow l.initial.keys known before l.initial.units
          → Follow l.keys known (before ++ zip (take l.at l.ids) (take l.at l.outcomes)) l.units;
    }
