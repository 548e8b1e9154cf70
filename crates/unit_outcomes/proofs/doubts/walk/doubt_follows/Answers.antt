use Rattle.unit_outcomes.proofs.Doubted.{break_before}
use Rattle.unit_outcomes.proofs.doubts.walk.doubt_follows.Goals as goal

pub returns : goal.returns
returns c = break_before
