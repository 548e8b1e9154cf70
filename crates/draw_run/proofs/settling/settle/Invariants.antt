use Rattle.std.proofs.Common.{◌≤◌}
use Rattle.draw_run.specs.Loading.{KeepsRest}
use Rattle.draw_run.proofs.settling.settle.Given as goal

abbrev pub invariant-loop : goal.invariant-loop
invariant-loop l = record {
  keeps : KeepsRest l.fn.session l.session;
  given : l.counter ≤ l.session.jobs;
}
