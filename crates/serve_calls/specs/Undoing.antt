-- What can be undone and redone of the stream that a server edits, and its results.
use Rattle.std.specs.Prelude.{◌≡◌, ◌⊎◌, ℕ, ◌+◌, ◌-◌, ◌<◌, List, length, min, Some, slice_get, Result, Ok, Err}
use Rattle.edit_history.specs.declared.refusals.NotUndone.{NotUndone}
use Rattle.edit_history.specs.declared.refusals.NotUndone.TheVariants as not_undone
use Rattle.edit_history.specs.Refusals.{IsNotUndone}
use Rattle.edit_history.specs.Texts.{Texts}
use Rattle.stream_edits.specs.declared.edits.Edit.{Edit}
use Rattle.stream_edits.specs.declared.group_refused.GroupRefused.{GroupRefused}
use Rattle.stream_edits.specs.declared.receipts.GroupReceipt.{GroupReceipt}
use Rattle.stream_edits.specs.declared.refusals.EditRefused.TheVariants as refusals
use Rattle.stream_edits.specs.Edits.{Register}
use Rattle.stream_edits.specs.GroupRefusals.{IsGroupRefused, IsUntaken}
use Rattle.access_unit.specs.StreamUnits.{most_units}
use Rattle.stand_in_session.specs.Machines.{Machine}
use Rattle.serve_requests.specs.declared.failure.Failure.{Failure}
use Rattle.serve_requests.specs.declared.failure.Failure.TheVariants.{Refused}
use Rattle.serve_requests.specs.declared.failure.CallRefusal.{CallRefusal}
use Rattle.serve_requests.specs.declared.failure.CallRefusal.TheVariants as refusal
use Rattle.serve_answers.specs.declared.answer.Answer.{Answer}
use Rattle.edit_history.specs.declared.undo_redo.undo_redo.UndoRedo.{UndoRedo}
use Rattle.edit_history.specs.declared.undo_redo.unit_texts.UnitTexts.{UnitTexts}
use Rattle.edit_history.specs.States.{IsUndoRedo, TakesTo}
use Rattle.serve_calls.specs.declared.server.Server.{Server}
use Rattle.serve_calls.specs.Editing.{sums_after_group}
use Rattle.serve_calls.specs.Sessions.{Steps}
use Rattle.serve_calls.specs.Unmade.{MakesTogether, group_made_answer}
use Rattle.serve_calls.specs.declared.unmade.GroupFault.{GroupFault}
use Rattle.serve_calls.specs.declared.unmade.GroupFault.TheVariants as group_fault

-- why nothing is undone or redone, where nothing is there
abbrev pub undo_failure : CallRefusal → NotUndone → Failure
undo_failure none not_undone.Nothing = Refused none
undo_failure none not_undone.IdsSpent = Refused (refusal.Edit refusals.IdsSpent)
undo_failure none not_undone.Unfit = Refused refusal.NoSuchUnit
undo_failure none not_undone.Memory = Refused refusal.Memory

-- the edits take back the last step that is done, whatever the stream is: they are accepted, and lead to the texts before it
abbrev pub Undoes : UndoRedo → List Edit → UnitTexts → Type 0
Undoes it edits units =
    (states : List Texts) (old : Register) → IsUndoRedo it states old → (at : ℕ) (before : Texts) → it.history.done ≡ at + 1
    → slice_get states at ≡ Some before → TakesTo old edits before units

-- the edits make the next step again that was taken back: they are accepted, and lead to the texts after it
abbrev pub Redoes : UndoRedo → List Edit → UnitTexts → Type 0
Redoes it edits units =
    (states : List Texts) (old : Register) → IsUndoRedo it states old → (after : Texts)
    → slice_get states (it.history.done + 1) ≡ Some after → TakesTo old edits after units

-- so many of the same steps are done now, and the stream has the texts after them
pub record IsAt (done : ℕ) (old : UndoRedo) (before : Register) (new : UndoRedo) (after : Register) : Type 0 where
  pub done_are : new.history.done ≡ done
  pub steps_are : new.history.steps.items ≡ old.history.steps.items
  pub is : (states : List Texts) → IsUndoRedo old states before → IsUndoRedo new states after

-- after the answer to a group that goes to so many steps: it is there if the group is accepted, and else where it was
abbrev pub GoesTo : ℕ → UndoRedo → Register → Result GroupReceipt GroupFault → UndoRedo → Register → Type 0
GoesTo done old before (Ok receipt) new after = IsAt done old before new after
GoesTo done old before (Err fault) new after = new ≡ old

-- the session answers the group of an undo or a redo so, which goes to so many steps; or it isn't recorded
pub record StepsTo (done : ℕ) (old : UndoRedo) (before : Machine) (edits : List Edit) (answer : Result GroupReceipt GroupFault)
    (new : UndoRedo) (after : Machine) : Type 0 where
  pub answers : MakesTogether before edits answer after
  pub goes : GoesTo done old before.register answer new after.register

-- the result of edits that go to so many steps: the session's answer; or they aren't taken as a group of an undo or a redo,
-- whatever the stream is, and nothing is asked
abbrev pub GoesBy : {B S : Type 0} → (B → Machine → Type 0) → ℕ → Server B S → List Edit
    → Result GroupReceipt GroupFault → Server B S → Type 0
GoesBy is_session done old edits answer new =
    (Steps (is_session old.backend) (λ before after. StepsTo done old.history before edits answer new.history after)
    (is_session new.backend) × (new.sums ≡ sums_after_group old.sums edits answer) × (new.source ≡ old.source))
    ⊎ ((refused : GroupRefused) × (answer ≡ Err (group_fault.Refused refused)) × IsUntaken most_units edits refused
    × ((register : Register) → IsGroupRefused register edits refused) × (new ≡ old))

-- the result of an undo: that of a group that takes the last step back; or why there is none, and nothing changes
abbrev pub UndoesAs : {B S : Type 0} → (B → Machine → Type 0) → Server B S → Result Answer Failure → Server B S → Type 0
UndoesAs is_session old result new =
    ((edits : List Edit) × (units : UnitTexts) × (answer : Result GroupReceipt GroupFault) × (0 < old.history.history.done)
    × Undoes old.history edits units
    × GoesBy is_session (old.history.history.done - 1) old edits answer new × (result ≡ group_made_answer answer))
    ⊎ ((why : NotUndone) × IsNotUndone old.history.history.done why × (result ≡ Err (undo_failure refusal.NothingToUndo why))
    × (new ≡ old))

-- the result of a redo: that of a group that makes the next step again; or why there is none, and nothing changes
abbrev pub RedoesAs : {B S : Type 0} → (B → Machine → Type 0) → Server B S → Result Answer Failure → Server B S → Type 0
RedoesAs is_session old result new =
    ((edits : List Edit) × (units : UnitTexts) × (answer : Result GroupReceipt GroupFault)
    × (old.history.history.done < length old.history.history.steps.items) × Redoes old.history edits units
    × GoesBy is_session (min (old.history.history.done + 1) (length old.history.history.steps.items)) old edits answer new
    × (result ≡ group_made_answer answer))
    ⊎ ((why : NotUndone) × IsNotUndone (length old.history.history.steps.items - old.history.history.done) why
    × (result ≡ Err (undo_failure refusal.NothingToRedo why)) × (new ≡ old))
