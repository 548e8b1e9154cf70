use Rattle.std.proofs.Common.{◌-◌, ◌^◌}
use Rattle.plan_stream.proofs.Windows.{Goes}
use Rattle.plan_stream.proofs.gathering.gather.Given as goal

abbrev pub invariant-loop-room : goal.invariant-loop-room
invariant-loop-room g l = record {
  goes : Goes (g.F.UnitFold.folds l.fn.fold) (g.R.Read.remaining l.fn.reader) l.window (g.R.Read.remaining l.reader) l.gathering;
}

abbrev pub decreases-loop-room : goal.decreases-loop-room
decreases-loop-room g l = 2 ^ 64 - l.gathering.count
