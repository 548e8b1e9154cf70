use Rattle.std.proofs.Common.{refl}
use Rattle.stream_svg.proofs.beginning.write_rows.Goals as goal

pub returns : goal.returns
returns c = rw (c.stream_top.ensures.value, c.output_top.ensures.value) at (c.print.ensures _ refl)
