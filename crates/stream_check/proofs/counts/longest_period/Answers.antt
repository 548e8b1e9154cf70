use Rattle.std.proofs.Common.{arith}
use Rattle.std.proofs.lemmas.Int.{clamps}
use Rattle.stream_check.proofs.Periods.{longest_step}
use Rattle.stream_check.proofs.counts.longest_period.Goals as goal

pub loop-outcome-preserved : goal.loop-outcome-preserved
loop-outcome-preserved c = grind (arith, clamps, longest_step)
