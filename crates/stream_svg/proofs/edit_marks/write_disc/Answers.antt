use Rattle.std.proofs.Common.{refl}
use Rattle.stream_svg.proofs.edit_marks.write_disc.Goals as goal

pub returns : goal.returns
returns c = rw (c.middle-x.ensures, c.saturating_sub-top.ensures, c.saturating_sub-y.ensures) at (c.print.ensures _ refl)
