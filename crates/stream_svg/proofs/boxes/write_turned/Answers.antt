use Rattle.std.proofs.Common.{refl}
use Rattle.stream_svg.proofs.boxes.write_turned.Goals as goal

pub returns : goal.returns
returns c = rw (c.middle.ensures, c.saturating_sub-y.ensures) at (c.print.ensures _ refl)
