-- What is recorded once a call or a message is answered.
use Rattle.std.specs.Prelude.{◌⊎◌, ℕ, Bool, List, [], ◌∷◌, Option, None, Some, Result, Ok, Err, IsErr}
use Rattle.stream_edits.specs.declared.edits.Edit.{Edit}
use Rattle.stream_edits.specs.Edits.{Register}
use Rattle.stream_edits.specs.Snapshots.{IsOf, SnapshotValue}
use Rattle.edit_history.specs.declared.undo_redo.undo_redo.UndoRedo.{UndoRedo}
use Rattle.edit_history.specs.declared.undo_redo.unit_texts.UnitTexts.{UnitTexts}
use Rattle.edit_history.specs.KeptTexts.{IsKept}
use Rattle.stand_in_session.specs.Machines.{Machine}
use Rattle.session_journal.specs.declared.steps.step.RecordedStep.{RecordedStep}
use Rattle.session_journal.specs.declared.steps.step.RecordedStep.TheVariants.{Edits, Snapshot}
use Rattle.serve_requests.specs.declared.call.Call.{Call}
use Rattle.serve_requests.specs.declared.call.Call.TheVariants as call
use Rattle.serve_requests.specs.declared.call.Loaded.{Loaded}
use Rattle.serve_requests.specs.declared.failure.Failure.{Failure}
use Rattle.serve_requests.specs.Messages.{Parts}
use Rattle.serve_requests.specs.Requests.{IsRequestAnswer, called}
use Rattle.serve_answers.specs.declared.answer.Answer.{Answer}
use Rattle.serve_calls.specs.declared.server.Server.{Server}
use Rattle.serve_calls.specs.Loading.{IsTextOf}
use Rattle.serve_calls.specs.Offering.{Offered}
use Rattle.serve_calls.specs.Preparing.{prepared}
use Rattle.serve_calls.specs.Recording.{AreMade, KeepsRecords, RecordsIf, RecordsOnly, RecordsSome, RecordsStream}
use Rattle.serve_calls.specs.Undoing.{Redoes, Undoes}

-- these edits take the last step back that is done
abbrev pub AreUndoing : UndoRedo → List Edit → Type 0
AreUndoing history edits = (units : UnitTexts) × Undoes history edits units

-- these edits make the next step again that was taken back
abbrev pub AreRedoing : UndoRedo → List Edit → Type 0
AreRedoing history edits = (units : UnitTexts) × Redoes history edits units

-- the snapshot is one of each stream whose units are kept so
abbrev pub IsSnapshotOf : UndoRedo → SnapshotValue → Type 0
IsSnapshotOf history snapshot = (register : Register) → IsKept history.units register → IsOf snapshot register

-- a snapshot of the stream is recorded alone, if that is answered as done; or there is none, and nothing is recorded
abbrev pub RecordsSnapshot : {T E : Type 0} → (List RecordedStep → Type 0) → UndoRedo → Result T E → (List RecordedStep → Type 0) → Type 0
RecordsSnapshot before history answer after =
    ((snapshot : SnapshotValue) × IsSnapshotOf history snapshot × RecordsOnly before (Snapshot snapshot ∷ []) answer after)
    ⊎ (IsErr answer × KeepsRecords before after)

-- of a load of the units of the text that is loaded, as it came or mended, as many are recorded as were inserted; or it fails
-- before one is, and the steps are recorded still
abbrev pub RecordsLoaded : {S : Type 0} → (Machine → Type 0) → (S → List ℕ → Option (List ℕ)) → (List RecordedStep → Type 0) → S → Loaded
    → Bool → Result Answer Failure → (List RecordedStep → Type 0) → Type 0
RecordsLoaded is_session file before source it mend result after =
    ((text : List ℕ) × IsTextOf file source it text × RecordsStream is_session before (prepared mend text).text result after)
    ⊎ (IsErr result × AreMade result 0 × KeepsRecords before after)

-- what is recorded once a call is answered
abbrev pub RecordsCall : {B S : Type 0} → (B → Machine → Type 0) → (B → List RecordedStep → Type 0) → (S → List ℕ → Option (List ℕ))
    → Server B S → Call → Result Answer Failure → Server B S → Type 0
RecordsCall is records file old (call.Load loaded mend) result new =
    RecordsLoaded (is old.backend) file (records old.backend) old.source loaded mend result (records new.backend)
RecordsCall is records file old (call.Edit edit) result new =
    RecordsIf (records old.backend) (Edits (edit ∷ [])) result (records new.backend)
RecordsCall is records file old (call.Group edits) result new =
    RecordsIf (records old.backend) (Edits edits) result (records new.backend)
RecordsCall is records file old call.Undo result new =
    RecordsSome (records old.backend) (AreUndoing old.history) result (records new.backend)
RecordsCall is records file old call.Redo result new =
    RecordsSome (records old.backend) (AreRedoing old.history) result (records new.backend)
RecordsCall is records file old call.Reset result new = RecordsOnly (records old.backend) [] result (records new.backend)
RecordsCall is records file old call.Compact result new =
    RecordsSnapshot (records old.backend) old.history result (records new.backend)
RecordsCall is records file old it result new = KeepsRecords (records old.backend) (records new.backend)

-- what is recorded once a call is answered that was read; else the steps are recorded still
abbrev pub RecordsServedBy : {B S : Type 0} → (B → Machine → Type 0) → (B → List RecordedStep → Type 0) → (S → List ℕ → Option (List ℕ))
    → Server B S → Result Call Failure → Result Answer Failure → Server B S → Type 0
RecordsServedBy is records file old (Ok it) result new = RecordsCall is records file old it result new
RecordsServedBy is records file old (Err failure) result new = KeepsRecords (records old.backend) (records new.backend)

-- what is recorded once a request is answered: as by the call that its method and parameters are
abbrev pub RecordsServed : {B S : Type 0} → (B → Machine → Type 0) → (B → Offered) → (B → List RecordedStep → Type 0)
    → (S → List ℕ → Option (List ℕ)) → Server B S → Parts → Result Answer Failure → Server B S → Type 0
RecordsServed is lends records file old parts result new =
    (read : Result Call Failure) × IsRequestAnswer (called (lends old.backend).jobs (lends old.backend).journal parts) read
    × RecordsServedBy is records file old read result new

-- what is recorded once a message is answered: as by the request that it is; else the steps are recorded still
abbrev pub RecordsServedIf : {B S : Type 0} → (B → Machine → Type 0) → (B → Offered) → (B → List RecordedStep → Type 0)
    → (S → List ℕ → Option (List ℕ)) → Server B S → Option Parts → Result Answer Failure → Server B S → Type 0
RecordsServedIf is lends records file old (Some parts) result new = RecordsServed is lends records file old parts result new
RecordsServedIf is lends records file old None result new = KeepsRecords (records old.backend) (records new.backend)
