use Rattle.decode_pool.proofs.Outs.{given_back_differ}
use Rattle.decode_pool.proofs.state.DeskState.give_back.Goals as goal

pub invariant_of-self : goal.invariant_of-self
invariant_of-self g c = record {
  jobs = given_back_differ c.args.self.now.session c.give_back_in.new.session c.give_back_in.ensures.session.job
      c.give_back_in.result c.give_back_in.ensures.session.returns c.args.self.now.jobs;
}
