use Rattle.stream_mending.proofs.Unchanged.{twice}
use Rattle.stream_mending.proofs.laws.mended_stays.Goals as goal

pub returns-clause-written : goal.returns-clause-written
returns-clause-written c = λ text. (twice text).0

pub returns-clause-told : goal.returns-clause-told
returns-clause-told c = λ text. (twice text).1
