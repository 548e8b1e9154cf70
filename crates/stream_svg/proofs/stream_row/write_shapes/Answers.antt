use Rattle.stream_svg.proofs.Growing.{more_ok}
use Rattle.stream_svg.proofs.stream_row.write_shapes.Goals as goal

pub returns : goal.returns
returns c =
    more_ok _ _ c.write_box.result (rw c.as_slice.ensures.value at c.in_ok-write_arcs.ensures)
    (rw c.stream_box.ensures.value at c.write_box.ensures)
