use Rattle.std.proofs.Common.{refl}
use Rattle.stream_svg.proofs.end.write_words.Goals as goal

pub returns : goal.returns
returns c = rw (c.saturating_sub-x.ensures, c.middle.ensures) at (c.print.ensures _ refl)
