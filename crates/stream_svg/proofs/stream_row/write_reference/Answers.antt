use Rattle.stream_svg.proofs.stream_row.write_reference.Goals as goal

pub returns : goal.returns
returns c = rw c.arc_of-arc.ensures.value at c.write_arc.ensures
