use Rattle.std.proofs.Common.{arith, inl, inr}
use Rattle.checkpoints.proofs.Members.{kept_from_cut}
use Rattle.checkpoints.proofs.laws.can_shift_after_cut.Goals as goal

pub returns : goal.returns
returns g c states low high by less = λ place other at-place at-other below past.
    elim (kept_from_cut states low high place at-place) [
      | inl le ↦ omega arith
      | inr ge ↦ absurd (omega (arith, ge))
    ]
