use Rattle.std.proofs.Common.{◌≡◌, take}
use Rattle.stream_edits.proofs.snapshots.read_snapshot.ReadSnapshot.shares.Given as goal

abbrev pub invariant-loop-unit : goal.invariant-loop-unit
invariant-loop-unit l = l.units.items ≡ take l.unit-index l.self.stream
