-- The sentences of refusals, without their full stops (docs/SERVER.md).
use Rattle.std.specs.Prelude.{ℕ, List, codes}
use Rattle.access_unit.specs.declared.refused.Refused.{Refused}
use Rattle.access_unit.specs.declared.refused.Refused.TheVariants as refused
use Rattle.access_unit.specs.declared.stream_units.Refusal.{Refusal as StreamRefusal}
use Rattle.access_unit.specs.declared.stream_units.Refusal.TheVariants as stream
use Rattle.stream_edits.specs.declared.group_refused.GroupRefused.{GroupRefused}
use Rattle.stream_edits.specs.declared.group_refused.GroupRefused.TheVariants as groups
use Rattle.stream_edits.specs.declared.refusals.EditRefused.{EditRefused}
use Rattle.stream_edits.specs.declared.refusals.EditRefused.TheVariants as edits
use Rattle.serve_requests.specs.declared.failure.CallRefusal.{CallRefusal}
use Rattle.serve_requests.specs.declared.failure.CallRefusal.TheVariants as refusal

-- why an access unit is refused
abbrev pub unit_reason : Refused → List ℕ
unit_reason refused.Split = codes "the bytes don't begin with a start code, or a NAL unit is empty or has bytes that none may have (B.1, 7.4.1)"
unit_reason refused.UnitType = codes "a NAL unit is of a type that isn't read: data partitions, a subset SPS, a prefix, or slices of other views or layers (table 7-1)"
unit_reason refused.ForbiddenBit = codes "forbidden_zero_bit of a NAL unit is 1: it is damaged (7.4.1)"
unit_reason refused.Sps = codes "a sequence parameter set can't be read (7.3.2.1.1)"
unit_reason refused.Pps = codes "a picture parameter set can't be read (7.3.2.2)"
unit_reason refused.Switching = codes "a slice is of type SP or SI, which the Extended profile alone has (7.4.3)"
unit_reason refused.MixedIdr = codes "slices of an IDR picture and of another one stand in one access unit (7.4.1.2.4)"
unit_reason refused.IdrNotIntra = codes "an IDR picture has a P or B slice (7.4.3)"
unit_reason refused.IdrNotReference = codes "an IDR picture has nal_ref_idc 0 (7.4.1)"
unit_reason refused.MixedReference = codes "nal_ref_idc is 0 in a slice of an access unit and not in another (7.4.1)"
unit_reason refused.UnitOrder = codes "a NAL unit stands behind a slice that belongs before it (7.4.1.2.3)"
unit_reason refused.TwoPictures = codes "a second picture begins in one access unit (7.4.1.2.3)"
unit_reason refused.TooLarge = codes "an access unit has more than 4,194,304 bytes or 256 slices"
unit_reason refused.Memory = codes "out of memory"

-- why an edit is refused
abbrev pub edit_reason : EditRefused → List ℕ
edit_reason (edits.Unit refused) = unit_reason refused
edit_reason edits.NoSuchUnit = codes "no unit has the id"
edit_reason edits.StreamFull = codes "the stream has no room: 65,536 units are the most"
edit_reason edits.IdsSpent = codes "all 4,294,967,295 ids were given"
edit_reason edits.Memory = codes "out of memory"

-- why a group is refused: as its edit is, if one of them is
abbrev pub group_reason : GroupRefused → List ℕ
group_reason groups.Empty = codes "the group has no edit"
group_reason groups.TooLarge = codes "the group has more than 1,024 edits"
group_reason (groups.Edit index refused) = edit_reason refused
group_reason groups.Memory = codes "out of memory"

-- why a stream is refused: as its unit is, if one of them is
abbrev pub stream_reason : StreamRefusal → List ℕ
stream_reason stream.Split = unit_reason refused.Split
stream_reason (stream.Unit index refused) = unit_reason refused
stream_reason stream.StreamFull = edit_reason edits.StreamFull

-- why something is refused
abbrev pub reason_of : CallRefusal → List ℕ
reason_of (refusal.Edit refused) = edit_reason refused
reason_of (refusal.Group refused) = group_reason refused
reason_of (refusal.Stream refused) = stream_reason refused
reason_of (refusal.Loading refused units) = edit_reason refused
reason_of refusal.NoSuchUnit = codes "no unit has the id"
reason_of refusal.TooManyWanted = codes "more than 64 ids are wanted"
reason_of refusal.CannotRead = codes "the file can't be read"
reason_of refusal.JobsSpent = codes "all numbers of jobs were given"
reason_of refusal.CannotWrite = codes "the file can't be written"
reason_of refusal.NothingToUndo = codes "there is nothing to undo"
reason_of refusal.NothingToRedo = codes "there is nothing to redo"
reason_of refusal.Memory = codes "out of memory"
