-- The codes, messages and details of failures (docs/SERVER.md).
use Rattle.std.specs.Prelude.{ℕ, ℤ, pos, negsuc, List, codes, Option, Some, None}
use Rattle.access_unit.specs.declared.stream_units.Refusal.{Refusal as StreamRefusal}
use Rattle.access_unit.specs.declared.stream_units.Refusal.TheVariants as stream
use Rattle.access_unit.specs.Names.{name_of as name_of_unit}
use Rattle.access_unit.specs.Numbers.{number_of as number_of_unit}
use Rattle.stream_edits.specs.GroupRefusals.{name_of_group, number_of_group}
use Rattle.stream_edits.specs.Names.{name_of as name_of_edit}
use Rattle.stream_edits.specs.Numbers.{number_of as number_of_edit}
use Rattle.stream_edits.specs.declared.group_refused.GroupRefused.{GroupRefused}
use Rattle.stream_edits.specs.declared.group_refused.GroupRefused.TheVariants as groups
use Rattle.serve_requests.specs.declared.failure.Detail.{Detail}
use Rattle.serve_requests.specs.declared.failure.Detail.TheVariants as detail
use Rattle.serve_requests.specs.declared.failure.Why.{Why}
use Rattle.serve_requests.specs.declared.failure.Failure.{Failure}
use Rattle.serve_requests.specs.declared.failure.Failure.TheVariants.{NotJson, NotRequest, NoMethod, Parameters, Refused}
use Rattle.serve_requests.specs.declared.failure.CallRefusal.{CallRefusal}
use Rattle.serve_requests.specs.declared.failure.CallRefusal.TheVariants as refusal

-- the number and the name of the refusal of a stream: of a unit's, that one's
abbrev pub stream_number : StreamRefusal → ℕ
stream_number stream.Split = 1
stream_number (stream.Unit index refused) = number_of_unit refused
stream_number stream.StreamFull = 17

abbrev pub stream_name : StreamRefusal → List ℕ
stream_name stream.Split = codes "Split"
stream_name (stream.Unit index refused) = name_of_unit refused
stream_name stream.StreamFull = codes "StreamFull"

-- the number of a refusal
abbrev pub number_of : CallRefusal → ℕ
number_of (refusal.Edit refused) = number_of_edit refused
number_of (refusal.Group refused) = number_of_group refused
number_of (refusal.Stream refused) = stream_number refused
number_of (refusal.Loading refused units) = number_of_edit refused
number_of refusal.NoSuchUnit = 16
number_of refusal.TooManyWanted = 22
number_of refusal.CannotRead = 23
number_of refusal.JobsSpent = 24
number_of refusal.CannotWrite = 25
number_of refusal.NothingToUndo = 26
number_of refusal.NothingToRedo = 27
number_of refusal.Memory = 15

-- the name of a refusal
abbrev pub name_of : CallRefusal → List ℕ
name_of (refusal.Edit refused) = name_of_edit refused
name_of (refusal.Group refused) = name_of_group refused
name_of (refusal.Stream refused) = stream_name refused
name_of (refusal.Loading refused units) = name_of_edit refused
name_of refusal.NoSuchUnit = codes "NoSuchUnit"
name_of refusal.TooManyWanted = codes "TooManyWanted"
name_of refusal.CannotRead = codes "CannotRead"
name_of refusal.JobsSpent = codes "JobsSpent"
name_of refusal.CannotWrite = codes "CannotWrite"
name_of refusal.NothingToUndo = codes "NothingToUndo"
name_of refusal.NothingToRedo = codes "NothingToRedo"
name_of refusal.Memory = codes "Memory"

-- the index of the edit of a group, or of the unit of a stream, that is refused
abbrev pub index_in_group : GroupRefused → Option ℕ
index_in_group groups.Empty = None
index_in_group groups.TooLarge = None
index_in_group (groups.Edit index refused) = Some index
index_in_group groups.Memory = None

abbrev pub index_in_stream : StreamRefusal → Option ℕ
index_in_stream stream.Split = None
index_in_stream (stream.Unit index refused) = Some index
index_in_stream stream.StreamFull = None

abbrev pub index_in : CallRefusal → Option ℕ
index_in (refusal.Edit refused) = None
index_in (refusal.Group refused) = index_in_group refused
index_in (refusal.Stream refused) = index_in_stream refused
index_in (refusal.Loading refused units) = None
index_in refusal.NoSuchUnit = None
index_in refusal.TooManyWanted = None
index_in refusal.CannotRead = None
index_in refusal.JobsSpent = None
index_in refusal.CannotWrite = None
index_in refusal.NothingToUndo = None
index_in refusal.NothingToRedo = None
index_in refusal.Memory = None

-- how many units of a stream were inserted
abbrev pub units_in : CallRefusal → Option ℕ
units_in (refusal.Edit refused) = None
units_in (refusal.Group refused) = None
units_in (refusal.Stream refused) = None
units_in (refusal.Loading refused units) = Some units
units_in refusal.NoSuchUnit = None
units_in refusal.TooManyWanted = None
units_in refusal.CannotRead = None
units_in refusal.JobsSpent = None
units_in refusal.CannotWrite = None
units_in refusal.NothingToUndo = None
units_in refusal.NothingToRedo = None
units_in refusal.Memory = None

-- why something is refused, with these two
abbrev pub why : CallRefusal → Why
why refused = record { index = index_in refused; units = units_in refused; reason = refused }

-- the code of a failure (JSON-RPC 2.0, 5.1)
abbrev pub code_of : Failure → ℤ
code_of NotJson = negsuc 32699
code_of NotRequest = negsuc 32599
code_of NoMethod = negsuc 32600
code_of (Parameters parameter) = negsuc 32601
code_of (Refused refused) = pos (number_of refused)

-- the message of a failure
abbrev pub message_of : Failure → List ℕ
message_of NotJson = codes "Parse error"
message_of NotRequest = codes "Invalid Request"
message_of NoMethod = codes "Method not found"
message_of (Parameters parameter) = codes "Invalid params"
message_of (Refused refused) = name_of refused

-- what is told beside them
abbrev pub detail_of : Failure → Option Detail
detail_of NotJson = None
detail_of NotRequest = None
detail_of NoMethod = None
detail_of (Parameters None) = None
detail_of (Parameters (Some parameter)) = Some (detail.Parameter parameter)
detail_of (Refused refused) = Some (detail.Refused (why refused))
