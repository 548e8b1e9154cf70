use Rattle.std.proofs.Common.{refl}
use Rattle.stream_svg.proofs.end.write_title.Goals as goal

pub returns : goal.returns
returns c = rw (c.number-id.ensures, c.classes_of-classes.ensures) at (c.print.ensures _ refl)
