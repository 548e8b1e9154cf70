use Rattle.std.proofs.Common.{refl}
use Rattle.stream_mending.proofs.Steps.{ended_large}
use Rattle.stream_mending.proofs.mending.Mending.drop_portion.Goals as goal

pub returns : goal.returns
returns c = λ text written said done portion so_far fit.
    ended_large text written said done portion c.args.self.now _ so_far fit c.in_ok-push_zeros.ensures c.in_ok-tell.ensures refl
