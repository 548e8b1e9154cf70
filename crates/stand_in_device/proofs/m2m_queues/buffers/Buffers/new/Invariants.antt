use Rattle.std.proofs.Common.{◌≡◌, map, length}
use Rattle.std.specs.List.{range_with_len}
use Rattle.stand_in_device.specs.Buffers.{free}
use Rattle.stand_in_device.proofs.m2m_queues.buffers.Buffers.new.Given as goal

abbrev pub invariant-loop-index : goal.invariant-loop-index
invariant-loop-index l =
    (l.items.items ≡ map free (range_with_len 0 l.index)) × (length l.items.items ≡ l.index)
