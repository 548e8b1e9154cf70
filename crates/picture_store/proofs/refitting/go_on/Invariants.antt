use Rattle.std.proofs.Common.{◌≡◌, ◌++◌, ℕ, List, [], take}
use Rattle.unit_outcomes.specs.declared.outcome.Outcome.{Outcome}
use Rattle.decode_jobs.specs.KeyMaps.{Extends, IsKeyMap}
use Rattle.picture_keys.specs.Following.{AreNumberedSome, Follow}
use Rattle.picture_keys.specs.Known.{Known}
use Rattle.picture_keys.specs.Numbered.{number_at, numbers_over}
use Rattle.picture_store.specs.Needs.{between}
use Rattle.picture_store.proofs.refitting.go_on.Given as goal

-- the keys of the units so far were found, and the numbers that they had are at hand
abbrev pub invariant-loop-at : goal.invariant-loop-at
invariant-loop-at g l =
    record {
      stay : Extends l.initial.keys l.keys;
      one : IsKeyMap l.initial.keys → IsKeyMap l.keys;
      some : AreNumberedSome l.keys l.after.numbers;
      was : (id : ℕ) → number_at l.before id ≡ number_at (numbers_over [] (take l.at l.units.ids.now) (take l.at l.units.numbers.now)) id;
      follow : (known : Known) (before : List (ℕ × Outcome)) → Follow l.initial.keys known before l.initial.after
          → Follow l.keys known (before ++ between l.to l.at l.units.ids.now l.units.outcomes.now) l.after;
    }
