use Rattle.std.proofs.Common.{refl}
use Rattle.stream_svg.proofs.beginning.write_svg.Goals as goal

pub returns : goal.returns
returns c = rw (c.width-width.ensures, c.height-height.ensures) at (c.print.ensures _ refl)
