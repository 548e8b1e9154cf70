-- Edits, groups, marks and drops by a server, and their results.
use Rattle.std.specs.Prelude.{◌≡◌, ◌⊎◌, ◌≤◌, ℕ, List, length, Option, None, Some, Result, Ok, Err}
use Rattle.std.specs.declared.alloc.AllocError.{AllocError}
use Rattle.stream_edits.specs.declared.edits.Edit.{Edit}
use Rattle.stream_edits.specs.declared.group_refused.GroupRefused.{GroupRefused}
use Rattle.stream_edits.specs.declared.receipts.GroupReceipt.{GroupReceipt}
use Rattle.stream_edits.specs.declared.receipts.Receipt.{Receipt}
use Rattle.stream_edits.specs.declared.refusals.EditRefused.{EditRefused}
use Rattle.stream_edits.specs.declared.refusals.EditRefused.TheVariants as refusals
use Rattle.stream_edits.specs.declared.group_refused.GroupRefused.TheVariants as groups
use Rattle.stream_edits.specs.Edits.{Register}
use Rattle.stream_edits.specs.GroupRefusals.{IsGroupRefused}
use Rattle.stream_edits.specs.Groups.{most_edits}
use Rattle.stream_edits.specs.Refusals.{IsRefused}
use Rattle.edit_script.specs.Words.{id_of}
use Rattle.stand_in_session.specs.declared.jobs.Dropping.{Dropping}
use Rattle.stand_in_session.specs.Machines.{Machine}
use Rattle.stand_in_session.specs.Needing.{AnswersDrop}
use Rattle.serve_requests.specs.declared.failure.Failure.{Failure}
use Rattle.serve_answers.specs.declared.answer.Answer.{Answer}
use Rattle.serve_answers.specs.declared.answer.Answer.TheVariants.{Word}
use Rattle.serve_answers.specs.declared.words.Word.TheVariants as word
use Rattle.serve_answers.specs.Replies.{drop_answer, edit_answer, group_answer}
use Rattle.serve_calls.specs.declared.server.Server.{Server}
use Rattle.serve_calls.specs.declared.sums.Sums.{Sums}
use Rattle.edit_history.specs.declared.undo_redo.prepared.OpenStep.{OpenStep}
use Rattle.edit_history.specs.declared.undo_redo.undo_redo.UndoRedo.{UndoRedo}
use Rattle.serve_calls.specs.Remembering.{GoesOnIf, Remembers, Rests}
use Rattle.serve_calls.specs.Failing.{out_of_memory}
use Rattle.serve_calls.specs.Sessions.{Clears, Marks, Steps}
use Rattle.serve_calls.specs.Sums.{bytes_of, bytes_of_edit, with_edit}
use Rattle.serve_calls.specs.Unmade.{MakesTogether, MakesOne, group_made_answer, made_answer}
use Rattle.serve_calls.specs.declared.unmade.EditFault.{EditFault}
use Rattle.serve_calls.specs.declared.unmade.EditFault.TheVariants as edit_fault
use Rattle.serve_calls.specs.declared.unmade.GroupFault.{GroupFault}
use Rattle.serve_calls.specs.declared.unmade.GroupFault.TheVariants as group_fault

-- the sums after an edit is answered
abbrev pub sums_after_edit : Sums → Edit → Result Receipt EditFault → Sums
sums_after_edit sums edit (Ok receipt) = with_edit sums receipt.steps (bytes_of_edit edit)
sums_after_edit sums edit (Err fault) = sums

-- the sums after a group is answered
abbrev pub sums_after_group : Sums → List Edit → Result GroupReceipt GroupFault → Sums
sums_after_group sums edits (Ok receipt) = with_edit sums receipt.steps (bytes_of edits)
sums_after_group sums edits (Err fault) = sums

-- the session answers an edit so, or it isn't recorded; an accepted one can be undone
pub record StepsEdit (old : UndoRedo) (before : Machine) (edit : Edit) (answer : Result Receipt EditFault) (new : UndoRedo)
    (after : Machine) : Type 0 where
  pub answers : MakesOne before edit answer after
  pub remembers : Remembers old before.register answer new after.register

-- the session answers an edit so, and an accepted one can be undone and is added to the sums; or memory ran out before it
-- was asked
abbrev pub MakesEdit : {B S : Type 0} → (B → Machine → Type 0) → Server B S → Edit → Result Receipt EditFault → Server B S → Type 0
MakesEdit is_session old edit answer new =
    (Steps (is_session old.backend) (λ before after. StepsEdit old.history before edit answer new.history after)
    (is_session new.backend) × (new.sums ≡ sums_after_edit old.sums edit answer) × (new.source ≡ old.source))
    ⊎ ((answer ≡ Err (edit_fault.Refused refusals.Memory)) × Rests old new)

-- the session answers an edit of a step that is under way so, or it isn't recorded
pub record StepsEditIn (old : UndoRedo) (begun : OpenStep) (before : Machine) (edit : Edit) (answer : Result Receipt EditFault)
    (new : UndoRedo) (step : OpenStep) (after : Machine) : Type 0 where
  pub answers : MakesOne before edit answer after
  pub goes_on : GoesOnIf old begun before.register answer new step after.register

-- the session answers an edit of a step that is under way so, and an accepted one is added to the sums; or memory ran out
-- before it was asked
abbrev pub MakesEditIn : {B S : Type 0} → (B → Machine → Type 0) → Server B S → OpenStep → Edit → Result Receipt EditFault
    → Server B S → OpenStep → Type 0
MakesEditIn is_session old begun edit answer new step =
    (Steps (is_session old.backend) (λ before after. StepsEditIn old.history begun before edit answer new.history step after)
    (is_session new.backend) × (new.sums ≡ sums_after_edit old.sums edit answer) × (new.source ≡ old.source))
    ⊎ ((answer ≡ Err (edit_fault.Refused refusals.Memory)) × Rests old new × (step ≡ begun))

-- the result of an edit is the session's answer; or the refusal of its text, whatever the stream
-- is: then nothing is asked
abbrev pub EditsAs : {B S : Type 0} → (B → Machine → Type 0) → Server B S → Edit → Result Answer Failure → Server B S → Type 0
EditsAs is_session old edit result new =
    ((answer : Result Receipt EditFault) × MakesEdit is_session old edit answer new × (result ≡ made_answer answer))
    ⊎ ((refused : EditRefused) × ((register : Register) → IsRefused register edit refused)
    × (result ≡ edit_answer (Err refused)) × (new ≡ old))

-- the session answers a group so, or it isn't recorded; an accepted one can be undone
pub record StepsGroup (old : UndoRedo) (before : Machine) (edits : List Edit) (answer : Result GroupReceipt GroupFault)
    (new : UndoRedo) (after : Machine) : Type 0 where
  pub answers : MakesTogether before edits answer after
  pub remembers : Remembers old before.register answer new after.register

-- the session answers a group so, and an accepted one can be undone and is added to the sums; or memory ran out before it
-- was asked
abbrev pub MakesStep : {B S : Type 0} → (B → Machine → Type 0) → Server B S → List Edit
    → Result GroupReceipt GroupFault → Server B S → Type 0
MakesStep is_session old edits answer new =
    (Steps (is_session old.backend) (λ before after. StepsGroup old.history before edits answer new.history after)
    (is_session new.backend) × (new.sums ≡ sums_after_group old.sums edits answer) × (new.source ≡ old.source))
    ⊎ ((answer ≡ Err (group_fault.Refused groups.Memory)) × Rests old new)

-- the session answers a group so, or it isn't recorded; it isn't remembered, and an accepted one is added to the sums
abbrev pub MakesGroup : {B S : Type 0} → (B → Machine → Type 0) → Server B S → List Edit
    → Result GroupReceipt GroupFault → Server B S → Type 0
MakesGroup is_session old edits answer new =
    Steps (is_session old.backend) (λ before after. MakesTogether before edits answer after) (is_session new.backend)
    × (new.sums ≡ sums_after_group old.sums edits answer) × (new.source ≡ old.source) × (new.history ≡ old.history)

-- the result of a group that isn't too large is the session's answer; or a refusal whatever the stream is: then nothing is
-- asked
abbrev pub GroupsAs : {B S : Type 0} → (B → Machine → Type 0) → Server B S → List Edit → Result Answer Failure → Server B S → Type 0
GroupsAs is_session old edits result new =
    ((answer : Result GroupReceipt GroupFault) × (length edits ≤ most_edits) × MakesStep is_session old edits answer new
    × (result ≡ group_made_answer answer))
    ⊎ ((refused : GroupRefused) × ((register : Register) → IsGroupRefused register edits refused)
    × (result ≡ group_answer (Err refused)) × (new ≡ old))

-- the result of a mark: that the stream is marked as it is, or that memory ran out and nothing
-- changed
abbrev pub mark_answer : Result (Unit {0}) AllocError → Result Answer Failure
mark_answer (Ok it) = Ok (Word word.Marked)
mark_answer (Err error) = Err out_of_memory

abbrev pub MarksAs : {B S : Type 0} → (B → Machine → Type 0) → Server B S → Result Answer Failure → Server B S → Type 0
MarksAs is_session old result new =
    ((answer : Result (Unit {0}) AllocError) × Marks (is_session old.backend) answer (is_session new.backend)
    × (result ≡ mark_answer answer)) × (new.sums ≡ old.sums) × (new.source ≡ old.source) × (new.history ≡ old.history)

-- the result of a drop is the session's answer, or that its cache is cleared
abbrev pub DropsAs : {B S : Type 0} → (B → Machine → Type 0) → Server B S → Option ℕ → Result Answer Failure → Server B S → Type 0
DropsAs is_session old (Some number) result new =
    ((answer : Dropping)
    × Steps (is_session old.backend) (λ before after. AnswersDrop before (id_of number) answer after) (is_session new.backend)
    × (result ≡ drop_answer answer))
    × (new.sums ≡ old.sums) × (new.source ≡ old.source) × (new.history ≡ old.history)
DropsAs is_session old None result new =
    Clears (is_session old.backend) (is_session new.backend) × (result ≡ Ok (Word word.Cleared))
    × (new.sums ≡ old.sums) × (new.source ≡ old.source) × (new.history ≡ old.history)
