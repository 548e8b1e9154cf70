use Rattle.std.proofs.Common.{refl}
use Rattle.stream_svg.proofs.edit_marks.write_ask.Goals as goal

pub returns : goal.returns
returns c = rw c.saturating_sub-y.ensures at (c.print.ensures _ refl)
