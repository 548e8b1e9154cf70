use Rattle.std.proofs.Common.{◌-◌, ◌^◌}
use Rattle.mend_run.specs.Runs.{IsSoFar}
use Rattle.mend_run.proofs.running.mend_through.Given as goal

abbrev pub invariant-loop-input : goal.invariant-loop-input
invariant-loop-input g l = record {
  so_far : IsSoFar (g.R.Read.remaining l.fn.reader) l.mender l.held.items (g.R.Read.remaining l.reader)
      (g.W.Write.contents l.fn.console.output) (g.W.Write.contents l.console.output) (g.E.Sink.refuses l.console.errors)
      (g.E.Write.contents l.fn.console.errors) (g.E.Write.contents l.console.errors) l.told;
}

abbrev pub decreases-loop-input : goal.decreases-loop-input
decreases-loop-input g l = 2 ^ 64 - l.input.count
