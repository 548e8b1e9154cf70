use Rattle.std.proofs.Common.{arith, inl, inr}
use Rattle.checkpoints.proofs.Members.{kept_from_cut}
use Rattle.fold_tests.proofs.tests.refold.stored_states.shorten.Goals as goal

pub shift-requires-clause-apart : goal.shift-requires-clause-apart
shift-requires-clause-apart c =
    rw c.cut.ensures.after (λ place other at-place at-other below past.
    elim (kept_from_cut c.args.states.now.states c.args.low c.args.high place at-place) [
      | inl le ↦ omega (arith, c.requires)
      | inr ge ↦ absurd (omega (arith, ge))
    ])
