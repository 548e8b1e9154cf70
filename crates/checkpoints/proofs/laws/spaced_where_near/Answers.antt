use Rattle.checkpoints.proofs.Spaced.{AreSpaced-near}
use Rattle.checkpoints.proofs.laws.spaced_where_near.Goals as goal

pub returns : goal.returns
returns c n end places starts rising most = AreSpaced-near n end places starts rising most
