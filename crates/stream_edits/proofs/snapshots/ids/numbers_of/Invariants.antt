use Rattle.std.proofs.Common.{◌≡◌, take}
use Rattle.stream_edits.specs.SnapshotsIds.{ids_of}
use Rattle.stream_edits.proofs.snapshots.ids.numbers_of.Given as goal

-- the ids of the units so far
abbrev pub invariant-loop-unit : goal.invariant-loop-unit
invariant-loop-unit l = l.numbers.items ≡ ids_of (take l.unit-index l.units)
