use Rattle.std.proofs.Common.{Some, sym}
use Rattle.stand_in_device.proofs.Numbered.{numbered_turned}
use Rattle.stand_in_device.proofs.m2m_queues.buffers.Buffers.turn.Goals as goal

pub invariant_of-self : goal.invariant_of-self
invariant_of-self c =
    rw (c.push.ensures.items, c.remove.ensures.items) (numbered_turned c.self.inside.items.items c.args.buffer (Some c.in-Some.place) (rw c.as_slice.ensures.value at (sym c.in-Some.ensures.place)) c.self.invariant)
