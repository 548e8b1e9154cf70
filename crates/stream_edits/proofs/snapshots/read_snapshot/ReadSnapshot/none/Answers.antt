use Rattle.stream_edits.proofs.None.{IsAnyOf-none}
use Rattle.stream_edits.proofs.snapshots.read_snapshot.ReadSnapshot.none.Goals as goal

pub invariant_of-result : goal.invariant_of-result
invariant_of-result c = rw c.new.ensures.items IsAnyOf-none
