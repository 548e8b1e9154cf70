use Rattle.worker_jobs.specs.Wanted.{urgent}
use Rattle.decode_pool.proofs.Outs.{took_first_differ}
use Rattle.decode_pool.proofs.state.DeskState.take_first.Goals as goal

pub invariant_of-self : goal.invariant_of-self
invariant_of-self g c = record {
  jobs = took_first_differ c.args.self.now.session c.take_first_in.new.session (urgent c.args.self.now.status.wanted)
      c.args.queue.now c.take_first_in.result c.take_first_in.new.self c.take_first_in.ensures c.args.self.now.jobs;
}
