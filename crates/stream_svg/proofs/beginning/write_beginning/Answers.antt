use Rattle.stream_svg.proofs.Growing.{more_ok}
use Rattle.stream_svg.proofs.beginning.write_beginning.Goals as goal

pub returns : goal.returns
returns c =
    let ends = c.put.result in
    more_ok _ _ ends c.in_ok-write_head.ensures (more_ok _ _ ends c.in_ok-write_begins.ensures
    (more_ok _ _ ends (rw c.as_slice-row.ensures.value at c.in_ok-write_output_begins.ensures)
    (more_ok _ _ ends (rw c.as_slice-row.ensures.value at c.in_ok-write_ways.ensures) c.put.ensures)))
