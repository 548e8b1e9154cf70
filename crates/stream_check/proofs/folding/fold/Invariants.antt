use Rattle.std.proofs.Common.{◌≡◌, ◌+◌, ◌++◌, drop}
use Rattle.request_core.specs.Fold.{outcomes_of}
use Rattle.request_core.specs.States.{no_units}
use Rattle.unit_printing.specs.StreamLines.{numbered_from}
use Rattle.stream_check.specs.Problems.{problems_from}
use Rattle.stream_check.proofs.FoldSteps.{rest_from}
use Rattle.stream_check.proofs.folding.fold.Given as goal

abbrev pub invariant-loop-place : goal.invariant-loop-place
invariant-loop-place l = record {
  so_far : outcomes_of (numbered_from 1 l.units) ≡ l.outcomes.items ++ rest_from l.state l.units l.place;
  counted : l.steps ≡ l.place;
  problems : problems_from no_units 1 l.units ≡ l.problems.found.items ++ problems_from l.state (l.place + 1) (drop l.place l.units);
  tables : l.problems.tables ≡ l.state.tables;
  last : l.problems.last ≡ l.state.prev_ref_frame_num;
}
