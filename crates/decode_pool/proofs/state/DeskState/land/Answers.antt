use Rattle.decode_pool.proofs.Outs.{landed_differ}
use Rattle.decode_pool.proofs.state.DeskState.land.Goals as goal

pub invariant_of-self : goal.invariant_of-self
invariant_of-self g c = record {
  jobs = landed_differ g.P.Decoded.IsDecoded c.args.self.now.session c.land_in.new.session c.land_in.ensures.session.job c.land_in.result
      c.land_in.ensures.session.lands c.args.self.now.jobs;
}
