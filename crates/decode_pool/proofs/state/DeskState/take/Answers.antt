use Rattle.decode_pool.proofs.Outs.{took_differ}
use Rattle.decode_pool.proofs.state.DeskState.take.Goals as goal

pub invariant_of-self : goal.invariant_of-self
invariant_of-self g c = record {
  jobs = took_differ c.args.self.now.session c.take_in.new.session c.args.queue.now c.take_in.result c.take_in.new.self
      c.take_in.ensures c.args.self.now.jobs;
}
