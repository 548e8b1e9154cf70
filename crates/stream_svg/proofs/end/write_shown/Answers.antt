use Rattle.stream_svg.proofs.Growing.{more_ok}
use Rattle.stream_svg.proofs.end.write_shown.Goals as goal

pub returns : goal.returns
returns c =
    let ends = c.put.result in
    more_ok _ _ ends c.in_ok-write_title.ensures (more_ok _ _ ends c.in_ok-write_fills.ensures (more_ok _ _ ends c.in_ok-write_hatch.ensures
    (more_ok _ _ ends c.in_ok-write_doubt.ensures (more_ok _ _ ends c.in_ok-write_number.ensures c.put.ensures))))
