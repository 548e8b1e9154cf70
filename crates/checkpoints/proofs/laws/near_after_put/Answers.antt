use Rattle.checkpoints.proofs.Members.{Contains_put, Contains_put_new}
use Rattle.checkpoints.proofs.laws.near_after_put.Goals as goal

pub returns-clause-had : goal.returns-clause-had
returns-clause-had g c states place state n k near = (near.0, Contains_put states place state near.0 near.1, near.2, near.3)

pub returns-clause-new : goal.returns-clause-new
returns-clause-new g c states place state n k le lt = (place, Contains_put_new states place state, le, lt)
