-- The fold over a stream's units, and what is kept of them for a drawing.
use Rattle.std.specs.Prelude.{◌≡◌, ℕ, List, length, map, ◌++◌}
use Rattle.unit_outcomes.specs.InDoubt.{AreDoubts, IdsDiffer}
use Rattle.unit_outcomes.specs.SeenUnits.{SeenUnit}
use Rattle.unit_outcomes.specs.Walks.{IsBefore}
use Rattle.unit_outcomes.specs.declared.doubts.walk.Doubt.{Doubt}
use Rattle.unit_outcomes.specs.declared.doubts.walk.DoubtWalk.{DoubtWalk}
use Rattle.request_core.specs.States.{no_units}
use Rattle.request_core.specs.Fold.{outcomes_of}
use Rattle.request_core.specs.Agreement.{state_from}
use Rattle.plan_stream.specs.Shown.{shown_of}
use Rattle.plan_stream.specs.Streams.{numbered_from}
use Rattle.stream_session.specs.Doubting.{seen_in}
use Rattle.draw_run.specs.Chosen.{chosen, kept_from}
use Rattle.draw_run.specs.declared.drawn_fold.DrawnFold.{DrawnFold}

-- a walk went over the first units of a stream, and this is told of each of them, whatever units come
-- after them
pub record AreWalked (seen : List SeenUnit) (walk : DoubtWalk) (doubts : List Doubt) : Type 0 where
  pub walk_is : (rest : List SeenUnit) → IdsDiffer (seen ++ rest) → IsBefore (seen ++ rest) (length seen) walk
  pub doubts_are : (rest : List SeenUnit) → IdsDiffer (seen ++ rest) → AreDoubts (seen ++ rest) 0 (length seen) doubts

-- these access units were folded since the first of the two folds, whose choice the other has
pub record IsFoldOf (first : DrawnFold) (done : List (List (List ℕ)))
    (fold : DrawnFold) : Type 0 where
  pub choice_is : fold.choice ≡ first.choice
  pub state_is : fold.state ≡ state_from no_units (numbered_from 1 done)
  pub outcomes_are : fold.outcomes.items ≡ map shown_of (outcomes_of (numbered_from 1 done))
  pub walked : AreWalked (seen_in (numbered_from 1 done)) fold.walk fold.doubts.items
  pub kept_are : fold.kept.items
      ≡ chosen fold.choice.from fold.choice.units (kept_from 1 (outcomes_of (numbered_from 1 done)))
