use Rattle.std.proofs.Common.{inl, refl}
use Rattle.serve_calls.proofs.server.Server.insert_step.Goals as goal

pub returns-in-Ok-clause-inserts : goal.returns-in-Ok-clause-inserts
returns-in-Ok-clause-inserts g c = inl (
  record c.args.self.now { history = c.begin.new.self },
  c.in-Ok.step,
  record {
    keeps = record { backend = refl; sums = refl; source = refl };
    history = c.in-Ok.ensures.same;
    empty = c.in-Ok.ensures.empty;
    is = c.in-Ok.ensures.begun;
  },
  c.insert_begun.ensures.inserts,
)
