use Rattle.checkpoints.proofs.Stores.{lookup_cut}
use Rattle.checkpoints.proofs.laws.stored_after_cut.Goals as goal

pub returns : goal.returns
returns g c states low high q = lookup_cut states low high q
