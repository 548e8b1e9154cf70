-- RecordedStep edits that are made again.
use Rattle.std.proofs.Common.{◌≡◌, ◌≢◌, List, [], ◌∷◌, ◌++◌, Result, Ok, Err, IfOk, IsOk, OnOk, ap, arith, inl, inr, length, refl, rules}
use Rattle.stand_in_session.specs.Machines.{Machine}
use Rattle.stream_edits.specs.declared.edits.Edit.{Edit}
use Rattle.stream_edits.specs.declared.group_refused.GroupRefused.{GroupRefused}
use Rattle.stream_edits.specs.declared.group_refused.GroupRefused.TheVariants as groups
use Rattle.stream_edits.specs.declared.receipts.GroupReceipt.{GroupReceipt}
use Rattle.stream_edits.specs.declared.receipts.Receipt.{Receipt}
use Rattle.stream_edits.specs.declared.refusals.EditRefused.{EditRefused}
use Rattle.stream_edits.specs.declared.refusals.EditRefused.TheVariants as refusals
use Rattle.serve_calls.specs.declared.replaying.Unreplayed.{Unreplayed}
use Rattle.serve_calls.specs.declared.replaying.Unreplayed.TheVariants as unreplayed
use Rattle.serve_calls.specs.declared.journaled.Journaled.{Journaled}
use Rattle.serve_calls.specs.declared.server.Server.{Server}
use Rattle.session_journal.specs.declared.steps.step.RecordedStep.{RecordedStep}
use Rattle.session_journal.specs.declared.steps.step.RecordedStep.TheVariants.{Edits, Load, Snapshot}
use Rattle.session_journal.specs.SessionJournalKept.{with_left}
use Rattle.serve_calls.specs.Resuming.{ReplaysOnto, ReplaysSteps}
use Rattle.serve_calls.specs.declared.unmade.EditFault.{EditFault}
use Rattle.serve_calls.specs.declared.unmade.EditFault.TheVariants as edit_fault
use Rattle.serve_calls.specs.declared.unmade.GroupFault.{GroupFault}
use Rattle.serve_calls.specs.declared.unmade.GroupFault.TheVariants as group_fault
use Rattle.serve_calls.specs.Editing.{MakesEdit, MakesStep}
use Rattle.serve_calls.specs.Replaying.{RefusesEdit, RefusesGroup, ReplaysEdits}
use Rattle.stream_edits.specs.declared.snapshots.read_snapshot.SnapshotRefused.{SnapshotRefused}
use Rattle.stream_edits.specs.declared.snapshots.read_snapshot.SnapshotRefused.TheVariants as snapshots
use Rattle.serve_calls.specs.Unreplayed.{replayed_edit, replayed_group, unreplayed_edit, unreplayed_group, unreplayed_snapshot}

-- where the session's answer is a receipt, the edits are made again
pub group-replayed : {B S : Type 0} (is_session : B → Machine → Type 0) (old new : Server B S) (edits : List Edit)
    (answer : Result GroupReceipt GroupFault) (result : Result (Unit {0}) Unreplayed) → (IsOk result → IsOk answer)
    → MakesStep is_session old edits answer new → OnOk result (ReplaysEdits is_session old edits new)
group-replayed is_session old new edits (Ok receipt) (Ok it) ok makes = inr (receipt, makes)
group-replayed is_session old new edits (Ok receipt) (Err why) ok makes = tt {0}
group-replayed is_session old new edits (Err fault) (Ok it) ok makes = search rules
group-replayed is_session old new edits (Err fault) (Err why) ok makes = tt {0}

-- a last step of which nothing is made is not among those that are left
pub left-none : (steps : List RecordedStep) (step : RecordedStep) → with_left steps step 0 ≡ steps
left-none steps (Edits edits) = refl
left-none steps (Load edits) = refl
left-none steps (Snapshot snapshot) = refl

-- no steps are an empty list of them
pub nothing-left : (steps : List RecordedStep) → length steps ≡ 0 → steps ≡ []
nothing-left [] none = refl
nothing-left (step ∷ steps) none = absurd (omega (arith, none))

-- steps and a last one behind them are made again, where they were recorded so
pub steps-onto : {B K S : Type 0} (is_session : B → Machine → Type 0) (stands : K → List RecordedStep → Type 0)
    (ends : K → List RecordedStep → RecordedStep → Type 0) (old new : Server (Journaled B K) S) (journal : K) (steps front : List RecordedStep) (last : RecordedStep)
    (result : Result K Unreplayed) → steps ≡ front ++ last ∷ []
    → IfOk result (λ kept. ReplaysOnto is_session stands ends old journal front last kept new)
    → IfOk result (λ kept. ReplaysSteps is_session stands ends old journal steps kept new)
steps-onto is_session stands ends old new journal steps front last (Ok kept) split onto = inr (front, last, split, onto)
steps-onto is_session stands ends old new journal steps front last (Err why) split onto = tt {0}

-- a snapshot from which nothing begins is no step that the stream refuses
pub never-refused : (refused : SnapshotRefused) (why : Unreplayed) → why ≡ unreplayed_snapshot refused → why ≡ unreplayed.Refused → ⊥
never-refused snapshots.Memory why is so = absurd cc
never-refused snapshots.NoStream why is so = absurd cc

-- an edit that isn't made again as the stream refuses it isn't refused for lack of memory
pub edit-refusal : (refused : EditRefused) → unreplayed_edit refused ≡ unreplayed.Refused → refused ≢ refusals.Memory
edit-refusal refused so is =
    let memory : unreplayed_edit refused ≡ unreplayed.Memory = ap unreplayed_edit is in absurd cc

-- edits that aren't made again together as the stream refuses them aren't refused for lack of memory
pub group-refusal : (refused : GroupRefused) → unreplayed_group refused ≡ unreplayed.Refused → refused ≢ groups.Memory
group-refusal refused so is =
    let memory : unreplayed_group refused ≡ unreplayed.Memory = ap unreplayed_group is in absurd cc

-- where the stream refuses it, the session's answer is its refusal
pub edit-refused : {B S : Type 0} (is_session : B → Machine → Type 0) (old new : Server B S) (edit : Edit)
    (answer : Result Receipt EditFault) (result : Result (Unit {0}) Unreplayed) → result ≡ replayed_edit answer
    → MakesEdit is_session old edit answer new → result ≡ Err unreplayed.Refused → RefusesEdit is_session old edit new
edit-refused is_session old new edit (Ok receipt) result value makes so = absurd cc
edit-refused is_session old new edit (Err (edit_fault.Refused refused)) result value makes so =
    (refused, edit-refusal refused cc, inl makes)
edit-refused is_session old new edit (Err (edit_fault.Unkept why)) result value makes so = absurd cc

pub group-refused : {B S : Type 0} (is_session : B → Machine → Type 0) (old new : Server B S) (edits : List Edit)
    (answer : Result GroupReceipt GroupFault) (result : Result (Unit {0}) Unreplayed) → result ≡ replayed_group answer
    → MakesStep is_session old edits answer new → result ≡ Err unreplayed.Refused → RefusesGroup is_session old edits new
group-refused is_session old new edits (Ok receipt) result value makes so = absurd cc
group-refused is_session old new edits (Err (group_fault.Refused refused)) result value makes so =
    (refused, group-refusal refused cc, inl makes)
group-refused is_session old new edits (Err (group_fault.Unkept why)) result value makes so = absurd cc
