use Rattle.stream_svg.proofs.Growing.{more_ok}
use Rattle.stream_svg.proofs.beginning.write_head.Goals as goal

pub returns : goal.returns
returns c =
    let ends = c.write_rows.result in
    more_ok _ _ ends c.in_ok-write_svg.ensures (more_ok _ _ ends c.in_ok-write_name.ensures (more_ok _ _ ends c.in_ok-put.ensures
    (more_ok _ _ ends c.in_ok-write_name-2.ensures (more_ok _ _ ends c.in_ok-put-2.ensures (more_ok _ _ ends c.in_ok-put-3.ensures
    (more_ok _ _ ends c.in_ok-put-4.ensures (more_ok _ _ ends c.in_ok-write_wanted.ensures
    (more_ok _ _ ends (rw c.is_any_in_doubt.ensures at c.in_ok-write_wanted-2.ensures)
    (more_ok _ _ ends c.in_ok-put-5.ensures c.write_rows.ensures)))))))))
