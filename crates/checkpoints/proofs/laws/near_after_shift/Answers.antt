use Rattle.std.specs.Map.{keys_of}
use Rattle.checkpoints.proofs.Spaced.{near_unmoved, near_moved}
use Rattle.checkpoints.proofs.Stores.{keys_shifted}
use Rattle.checkpoints.proofs.laws.near_after_shift.Goals as goal

pub returns-clause-below : goal.returns-clause-below
returns-clause-below g c from change states n k below near =
    rw (keys_shifted from change states) (near_unmoved from change (keys_of states) n k below near)

pub returns-clause-moved : goal.returns-clause-moved
returns-clause-moved g c from change states near n k positive order can there high le lt =
    rw (keys_shifted from change states) (near_moved from change (keys_of states) near n k positive order.first can there high le lt)
