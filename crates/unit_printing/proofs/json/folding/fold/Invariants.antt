use Rattle.std.proofs.Common.{◌≡◌, ◌++◌}
use Rattle.request_core.specs.Fold.{outcomes_of}
use Rattle.unit_printing.specs.StreamLines.{numbered_from}
use Rattle.unit_printing.proofs.FoldSteps.{rest_from}
use Rattle.unit_printing.proofs.json.folding.fold.Given as goal

abbrev pub invariant-loop-place : goal.invariant-loop-place
invariant-loop-place l = record {
  so_far : outcomes_of (numbered_from 1 l.units) ≡ l.outcomes.items ++ rest_from l.state l.units l.place;
  counted : l.steps ≡ l.place;
}
