use Rattle.stand_in_device.proofs.Numbered.{is_some-buffer_at}
use Rattle.stand_in_device.proofs.m2m_queues.buffers.Buffers.at.Goals as goal

pub returns-clause-range : goal.returns-clause-range
returns-clause-range c = rw (← c.self.view_is) (is_some-buffer_at c.self.inside.items.items c.args.index c.self.invariant)
