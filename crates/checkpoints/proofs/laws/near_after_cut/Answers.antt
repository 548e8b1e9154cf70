use Rattle.checkpoints.proofs.Members.{Contains_cut}
use Rattle.checkpoints.proofs.laws.near_after_cut.Goals as goal

pub returns : goal.returns
returns g c states low high near n k there kept le lt = (near, Contains_cut states low high near kept there, le, lt)
