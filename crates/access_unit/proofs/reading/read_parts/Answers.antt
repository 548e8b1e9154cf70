-- One access unit more is read.
use Rattle.std.proofs.Common.{arith}
use Rattle.access_unit.proofs.PartsAlone.{read_more}
use Rattle.access_unit.proofs.reading.read_parts.Goals as goal

pub loop-range-preserved : goal.loop-range-preserved
loop-range-preserved c =
    rw c.in_ok-push.ensures.items
    (read_more c.args.nals.now c.args.ranges.now c.loop-range.range-index _ _ _ (omega (arith, c.loop-range-test.true)) c.loop-range.invariant c.in_ok-read_part.ensures)
