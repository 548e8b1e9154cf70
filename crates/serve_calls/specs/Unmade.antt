-- Edits of a session that may be kept in a journal, and their results.
use Rattle.std.specs.Prelude.{◌≡◌, List, Result, Ok, Err}
use Rattle.stream_edits.specs.declared.edits.Edit.{Edit}
use Rattle.stream_edits.specs.declared.receipts.GroupReceipt.{GroupReceipt}
use Rattle.stream_edits.specs.declared.receipts.Receipt.{Receipt}
use Rattle.stand_in_session.specs.Machines.{Machine}
use Rattle.stream_session.specs.Grouping.{AnswersGroup}
use Rattle.stream_session.specs.Machines.{AnswersEdit}
use Rattle.session_journal.specs.declared.unkept.Unkept.{Unkept}
use Rattle.session_journal.specs.declared.unkept.Unkept.TheVariants as unkept
use Rattle.serve_requests.specs.declared.failure.Failure.{Failure}
use Rattle.serve_requests.specs.declared.failure.Failure.TheVariants as failure
use Rattle.serve_requests.specs.declared.failure.CallRefusal.TheVariants as refusal
use Rattle.serve_answers.specs.declared.answer.Answer.{Answer}
use Rattle.serve_answers.specs.Replies.{edit_answer, group_answer}
use Rattle.serve_calls.specs.declared.unmade.EditFault.{EditFault}
use Rattle.serve_calls.specs.declared.unmade.EditFault.TheVariants as edit_fault
use Rattle.serve_calls.specs.declared.unmade.GroupFault.{GroupFault}
use Rattle.serve_calls.specs.declared.unmade.GroupFault.TheVariants as group_fault
use Rattle.serve_calls.specs.Failing.{out_of_memory}

-- the session answers an edit so, or nothing changes as it isn't recorded
abbrev pub MakesOne : Machine → Edit → Result Receipt EditFault → Machine → Type 0
MakesOne before edit (Ok receipt) after = AnswersEdit before edit (Ok receipt) after
MakesOne before edit (Err (edit_fault.Refused refused)) after = AnswersEdit before edit (Err refused) after
MakesOne before edit (Err (edit_fault.Unkept why)) after = after ≡ before

-- the session answers a group so, or nothing changes as it isn't recorded
abbrev pub MakesTogether : Machine → List Edit → Result GroupReceipt GroupFault → Machine → Type 0
MakesTogether before edits (Ok receipt) after = AnswersGroup before edits (Ok receipt) after
MakesTogether before edits (Err (group_fault.Refused refused)) after = AnswersGroup before edits (Err refused) after
MakesTogether before edits (Err (group_fault.Unkept why)) after = after ≡ before

-- the failure of what isn't recorded
abbrev pub unkept_failure : Unkept → Failure
unkept_failure unkept.Unwritten = failure.Refused refusal.CannotWrite
unkept_failure unkept.Memory = out_of_memory

-- the result of an edit
abbrev pub made_answer : Result Receipt EditFault → Result Answer Failure
made_answer (Ok receipt) = edit_answer (Ok receipt)
made_answer (Err (edit_fault.Refused refused)) = edit_answer (Err refused)
made_answer (Err (edit_fault.Unkept why)) = Err (unkept_failure why)

-- the result of a group
abbrev pub group_made_answer : Result GroupReceipt GroupFault → Result Answer Failure
group_made_answer (Ok receipt) = group_answer (Ok receipt)
group_made_answer (Err (group_fault.Refused refused)) = group_answer (Err refused)
group_made_answer (Err (group_fault.Unkept why)) = Err (unkept_failure why)
