use Rattle.std.proofs.Common.{◌≡◌, ◌++◌, drop}
use Rattle.request_core.specs.Fold.{outcomes_from, outcomes_of}
use Rattle.request_core.proofs.stepping.scratch.Given as goal

abbrev pub invariant-loop-unit : goal.invariant-loop-unit
invariant-loop-unit l = record {
  so_far : outcomes_of l.units ≡ l.outcomes.items ++ outcomes_from l.state (drop l.unit-index l.units);
  counted : l.steps ≡ l.unit-index;
}
