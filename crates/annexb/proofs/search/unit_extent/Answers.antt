use Rattle.annexb.proofs.Scans.{scanned_past_zeros, EndsUnit_at_end, EndsUnit_at_code}
use Rattle.annexb.proofs.search.unit_extent.Goals as goal

pub returns-in-Last-clause-ok : goal.returns-in-Last-clause-ok
returns-in-Last-clause-ok c =
    (c.next_zeros-len.ensures.scanned, EndsUnit_at_end c.args.bytes.now c.next_zeros-len.result (rw c.split_at.ensures.back at c.in-Last.ensures))

pub returns-in-StartCode-clause-ok : goal.returns-in-StartCode-clause-ok
returns-in-StartCode-clause-ok c =
    let scanned = c.next_zeros-len.ensures.scanned in
    (scanned, EndsUnit_at_code c.args.bytes.now c.next_zeros-len.result c.in-StartCode.code scanned.in_range (rw c.split_at.ensures.back at c.in-StartCode.ensures))

pub loop-code-preserved : goal.loop-code-preserved
loop-code-preserved c =
    scanned_past_zeros c.args.bytes.now c.next_zeros-len.result c.next_zeros-len.ensures.scanned (rw c.split_at.ensures.back at c.in-Inside.ensures)
