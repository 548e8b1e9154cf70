use Rattle.std.proofs.Common.{arith}
use Rattle.checkpoints.proofs.Members.{le_last}
use Rattle.checkpoints.proofs.laws.can_shift_up.Goals as goal

pub returns : goal.returns
returns g c states from by last state is fits = λ place there high.
    let le = le_last states last is.greatest place there in omega (arith, le)
