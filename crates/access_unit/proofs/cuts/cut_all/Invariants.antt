use Rattle.access_unit.proofs.Progress.{IsCutTo}
use Rattle.access_unit.proofs.cuts.cut_all.Given as goal

abbrev pub invariant-loop-nal : goal.invariant-loop-nal
invariant-loop-nal l = IsCutTo l.nals l.nal-index l.text l.cut.items
