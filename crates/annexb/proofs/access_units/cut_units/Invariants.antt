use Rattle.annexb.proofs.Cuts.{IsCutTo}
use Rattle.annexb.proofs.access_units.cut_units.Given as goal

abbrev pub invariant-loop-at : goal.invariant-loop-at
invariant-loop-at l = IsCutTo l.nals l.at l.start l.has_slice l.ranges.items
