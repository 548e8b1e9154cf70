use Rattle.std.proofs.Common.{arith}
use Rattle.std.proofs.lemmas.Grind.{common_steps}
use Rattle.std.proofs.lemmas.List.FromFn.{map-range_with_len_more}
use Rattle.stand_in_device.proofs.Numbered.{numbered_free}
use Rattle.stand_in_device.specs.Buffers.{free}
use Rattle.stand_in_device.proofs.m2m_queues.buffers.Buffers.new.Goals as goal

pub loop-index-preserved : goal.loop-index-preserved
loop-index-preserved c =
    (rw (map-range_with_len_more free 0 c.loop-index.index c.loop-index.index (omega arith)) (grind (arith, common_steps)), grind (arith, common_steps))

pub invariant_of-result : goal.invariant_of-result
invariant_of-result c = rw c.loop-index.invariant.0 (numbered_free c.loop-index.index)
