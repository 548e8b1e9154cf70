use Rattle.stream_svg.proofs.Growing.{more_ok}
use Rattle.stream_svg.proofs.stream_row.write_box.Goals as goal

pub returns : goal.returns
returns c =
    let ends = c.put.result in
    more_ok _ _ ends c.in_ok-write_fills.ensures (more_ok _ _ ends c.in_ok-write_hatch.ensures (more_ok _ _ ends c.in_ok-write_letters.ensures
    (more_ok _ _ ends c.in_ok-write_doubt.ensures
    (more_ok _ _ ends (rw (c.number.ensures, c.id_height.ensures.value) at c.in_ok-write_number.ensures)
    (more_ok _ _ ends c.in_ok-write_picture.ensures c.put.ensures)))))
