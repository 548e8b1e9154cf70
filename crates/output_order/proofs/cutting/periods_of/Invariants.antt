use Rattle.output_order.proofs.Cuts.{IsCutUpTo}
use Rattle.output_order.proofs.cutting.periods_of.Given as goal

abbrev pub invariant-loop-at : goal.invariant-loop-at
invariant-loop-at l = IsCutUpTo l.units l.start l.at l.periods.items
