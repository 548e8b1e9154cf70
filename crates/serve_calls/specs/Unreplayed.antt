-- Why recorded edits aren't made again: memory ran out, or the stream refuses them.
use Rattle.std.specs.Prelude.{Result, Ok, Err}
use Rattle.stream_edits.specs.declared.group_refused.GroupRefused.{GroupRefused}
use Rattle.stream_edits.specs.declared.group_refused.GroupRefused.TheVariants as groups
use Rattle.stream_edits.specs.declared.receipts.GroupReceipt.{GroupReceipt}
use Rattle.stream_edits.specs.declared.receipts.Receipt.{Receipt}
use Rattle.stream_edits.specs.declared.refusals.EditRefused.{EditRefused}
use Rattle.stream_edits.specs.declared.refusals.EditRefused.TheVariants as refusals
use Rattle.serve_calls.specs.declared.replaying.Unreplayed.{Unreplayed}
use Rattle.serve_calls.specs.declared.replaying.Unreplayed.TheVariants as unreplayed
use Rattle.serve_calls.specs.declared.unmade.EditFault.{EditFault}
use Rattle.serve_calls.specs.declared.unmade.EditFault.TheVariants as edit_fault
use Rattle.serve_calls.specs.declared.unmade.GroupFault.{GroupFault}
use Rattle.serve_calls.specs.declared.unmade.GroupFault.TheVariants as group_fault
use Rattle.stream_edits.specs.declared.snapshots.read_snapshot.SnapshotRefused.{SnapshotRefused}
use Rattle.stream_edits.specs.declared.snapshots.read_snapshot.SnapshotRefused.TheVariants as snapshots

-- an edit isn't made again that is refused so
abbrev pub unreplayed_edit : EditRefused → Unreplayed
unreplayed_edit refusals.Memory = unreplayed.Memory
unreplayed_edit refused = unreplayed.Refused

-- a group isn't made again that is refused so
abbrev pub unreplayed_group : GroupRefused → Unreplayed
unreplayed_group groups.Memory = unreplayed.Memory
unreplayed_group refused = unreplayed.Refused

-- an edit that the session answers so is made again, or why not; no journal is written then
abbrev pub replayed_edit : Result Receipt EditFault → Result (Unit {0}) Unreplayed
replayed_edit (Ok receipt) = Ok (tt {0})
replayed_edit (Err (edit_fault.Refused refused)) = Err (unreplayed_edit refused)
replayed_edit (Err (edit_fault.Unkept why)) = Err unreplayed.Memory

-- a group that the session answers so is made again, or why not; no journal is written then
abbrev pub replayed_group : Result GroupReceipt GroupFault → Result (Unit {0}) Unreplayed
replayed_group (Ok receipt) = Ok (tt {0})
replayed_group (Err (group_fault.Refused refused)) = Err (unreplayed_group refused)
replayed_group (Err (group_fault.Unkept why)) = Err unreplayed.Memory

-- a snapshot from which nothing begins
abbrev pub unreplayed_snapshot : SnapshotRefused → Unreplayed
unreplayed_snapshot snapshots.Memory = unreplayed.Memory
unreplayed_snapshot snapshots.NoStream = unreplayed.InPart
