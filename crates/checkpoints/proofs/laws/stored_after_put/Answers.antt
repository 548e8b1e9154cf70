use Rattle.checkpoints.proofs.Stores.{lookup_put}
use Rattle.checkpoints.proofs.laws.stored_after_put.Goals as goal

pub returns : goal.returns
returns g c states place state q = lookup_put states place state q
