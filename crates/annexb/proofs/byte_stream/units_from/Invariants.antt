use Rattle.annexb.proofs.Splits.{IsSplitTo, text_left}
use Rattle.annexb.proofs.byte_stream.units_from.Given as goal

abbrev pub invariant-loop-next : goal.invariant-loop-next
invariant-loop-next l = IsSplitTo l.text l.next l.is_stored l.units.items

abbrev pub decreases-loop-next : goal.decreases-loop-next
decreases-loop-next l = text_left l.text l.next
