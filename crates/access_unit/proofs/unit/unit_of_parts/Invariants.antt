use Rattle.access_unit.proofs.Progress.{IsReadTo}
use Rattle.access_unit.proofs.unit.unit_of_parts.Given as goal

abbrev pub invariant-loop-nal : goal.invariant-loop-nal
invariant-loop-nal l = IsReadTo l.nals l.nal-index l.text l.parts
