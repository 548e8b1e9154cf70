use Rattle.stream_fold.proofs.Agreement.{go_on_alike}
use Rattle.stream_fold.proofs.laws.folds_that_agree_go_on_alike.Goals as goal

pub returns : goal.returns
returns c first second further agree = go_on_alike first second further agree
