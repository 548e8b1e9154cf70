use Rattle.picture_store.proofs.Waiting.{never_stuck}
use Rattle.picture_store.proofs.due.something_is_due.Goals as goal

pub returns : goal.returns
returns g c = never_stuck
