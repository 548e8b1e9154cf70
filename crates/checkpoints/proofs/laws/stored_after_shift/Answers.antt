use Rattle.checkpoints.proofs.Stores.{from_shifted, to_shifted}
use Rattle.checkpoints.proofs.laws.stored_after_shift.Goals as goal

pub returns-clause-only : goal.returns-clause-only
returns-clause-only g c from change states q state is = from_shifted from change states q state is

pub returns-clause-each : goal.returns-clause-each
returns-clause-each g c from change states place state positive order can is = to_shifted from change states place state positive order.first can is
