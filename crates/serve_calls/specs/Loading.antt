-- A stream whose access units a server inserts one after the other, and the result.
use Rattle.std.specs.Prelude.{◌≡◌, ◌⊎◌, ◌-◌, ◌≤◌, ℕ, Bool, List, [], ◌∷◌, length, Option, None, Some, IfSome, Result, Ok, Err}
use Rattle.annexb.specs.ByteStream.{joined}
use Rattle.access_unit.specs.declared.stream_units.Refusal.{Refusal as StreamRefusal}
use Rattle.access_unit.specs.StreamUnits.{IsStream, IsStreamRefused, most_units}
use Rattle.stream_edits.specs.declared.edits.Edit.TheVariants.{Insert}
use Rattle.stream_edits.specs.declared.receipts.Last.{Last}
use Rattle.stream_edits.specs.declared.receipts.Receipt.{Receipt}
use Rattle.stream_edits.specs.declared.refusals.EditRefused.TheVariants as refusals
use Rattle.stream_edits.specs.Streams.{last_of, place_after}
use Rattle.stand_in_session.specs.Machines.{Machine}
use Rattle.serve_requests.specs.declared.call.Loaded.{Loaded}
use Rattle.serve_requests.specs.declared.call.Loaded.TheVariants as loaded
use Rattle.serve_requests.specs.declared.failure.Failure.{Failure}
use Rattle.serve_requests.specs.declared.failure.Failure.TheVariants.{Refused}
use Rattle.serve_requests.specs.declared.failure.CallRefusal.TheVariants as refusal
use Rattle.serve_answers.specs.declared.answer.Answer.{Answer}
use Rattle.serve_answers.specs.declared.answer.Answer.TheVariants as answer
use Rattle.serve_answers.specs.declared.left_out_answers.LeftOutAnswer.{LeftOutAnswer}
use Rattle.serve_calls.specs.declared.loading.Inserted.{Inserted}
use Rattle.serve_calls.specs.declared.preparing.Prepared.{Prepared}
use Rattle.serve_calls.specs.declared.server.Server.{Server}
use Rattle.edit_history.specs.declared.undo_redo.prepared.OpenStep.{OpenStep}
use Rattle.serve_calls.specs.Editing.{MakesEditIn}
use Rattle.session_journal.specs.declared.unkept.Unkept.{Unkept}
use Rattle.serve_calls.specs.declared.unmade.EditFault.{EditFault}
use Rattle.serve_calls.specs.declared.unmade.EditFault.TheVariants as edit_fault
use Rattle.serve_calls.specs.Unmade.{unkept_failure}
use Rattle.serve_calls.specs.Remembering.{Begins, Ends, KeepsSession, Rests}
use Rattle.serve_calls.specs.Failing.{out_of_memory}
use Rattle.serve_calls.specs.Preparing.{prepared}
use Rattle.serve_calls.specs.Sessions.{Asks}
use Rattle.serve_calls.specs.Sums.{counted}

-- before the first unit, which will stand at a place
abbrev pub none_inserted : ℕ → Inserted
none_inserted from = record { from = from; units = 0; first = None; last = None }

-- the first id stays, if there is one
abbrev pub first_of : Option ℕ → ℕ → Option ℕ
first_of (Some first) id = Some first
first_of None id = Some id

-- after a unit more, with this id
abbrev pub with_unit : Inserted → ℕ → Inserted
with_unit inserted id =
    record { from = inserted.from; units = counted inserted.units 1; first = first_of inserted.first id; last = Some id }

-- the result of a load whose units were all inserted: they are what it changed; with what was left out if it was mended
abbrev pub loaded_answer : Option (List LeftOutAnswer) → Inserted → Answer
loaded_answer left_out inserted =
    answer.Loaded inserted.units inserted.first inserted.last (record { from = inserted.from; count = inserted.units }) left_out

-- the result of a load: that of all its units, or why one of them was refused
abbrev pub load_answer : Option (List LeftOutAnswer) → Result Inserted Failure → Result Answer Failure
load_answer left_out (Ok inserted) = Ok (loaded_answer left_out inserted)
load_answer left_out (Err failure) = Err failure

-- this is the end of the session's stream
abbrev pub IsLast : {B S : Type 0} → (B → Machine → Type 0) → Server B S → Last → Type 0
IsLast is_session server last = Asks (is_session server.backend) (λ machine. last ≡ last_of machine.register.stream)

-- a unit is inserted after the last one, in a step that is under way; or memory ran out before the session was asked
abbrev pub InsertsLast : {B S : Type 0} → (B → Machine → Type 0) → Server B S → OpenStep → List (List ℕ)
    → Result Receipt EditFault → Server B S → OpenStep → Type 0
InsertsLast is_session old begun unit answer new step =
    ((last : Last) × IsLast is_session old last
    × MakesEditIn is_session old begun (Insert (place_after last.id) (joined unit)) answer new step)
    ⊎ ((answer ≡ Err (edit_fault.Refused refusals.Memory)) × (new ≡ old) × (step ≡ begun))

-- why a unit isn't inserted, once so many were
abbrev pub uninserted : EditFault → ℕ → Failure
uninserted (edit_fault.Refused refused) units = Refused (refusal.Loading refused units)
uninserted (edit_fault.Unkept why) units = unkept_failure why

-- the units are inserted one after the other in a step that is under way, to the end or to the first that is refused; those
-- before it stay
abbrev pub InsertsAll : {B S : Type 0} → (B → Machine → Type 0) → Server B S → OpenStep → List (List (List ℕ)) → Inserted
    → Result Inserted Failure → Server B S → OpenStep → Type 0
InsertsAll is_session old begun [] inserted result new step = (result ≡ Ok inserted) × (new ≡ old) × (step ≡ begun)
InsertsAll {B} {S} is_session old begun (unit ∷ units) inserted result new step =
    ((receipt : Receipt) × (next : Server B S) × (more : OpenStep) × InsertsLast is_session old begun unit (Ok receipt) next more
    × InsertsAll is_session next more units (with_unit inserted receipt.id) result new step)
    ⊎ ((fault : EditFault) × InsertsLast is_session old begun unit (Err fault) new step
    × (result ≡ Err (uninserted fault inserted.units)))

-- the units are inserted as the step that has begun, with those that were inserted; or they aren't recorded, and nothing
-- is different
abbrev pub InsertsBegun : {B S : Type 0} → (B → Machine → Type 0) → Server B S → OpenStep → List (List (List ℕ)) → Inserted
    → Result Inserted Failure → Server B S → Type 0
InsertsBegun {B} {S} is_session old step units inserted result new =
    ((begun done ended : Server B S) × (last : OpenStep) × KeepsSession is_session old begun
    × InsertsAll is_session begun step units inserted result done last × KeepsSession is_session done ended × Ends ended last new)
    ⊎ ((why : Unkept) × (result ≡ Err (unkept_failure why)) × KeepsSession is_session old new)

-- the units are inserted as one step; or memory ran out, and nothing is asked
abbrev pub InsertsStep : {B S : Type 0} → (B → Machine → Type 0) → Server B S → List (List (List ℕ)) → Inserted
    → Result Inserted Failure → Server B S → Type 0
InsertsStep {B} {S} is_session old units inserted result new =
    ((begun : Server B S) × (first : OpenStep) × Begins old begun first × InsertsBegun is_session begun first units inserted result new)
    ⊎ ((result ≡ Err out_of_memory) × Rests old new)

-- the text that is loaded: the bytes that are given, or those of the file where they are known
abbrev pub IsTextOf : {S : Type 0} → (S → List ℕ → Option (List ℕ)) → S → Loaded → List ℕ → Type 0
IsTextOf file source (loaded.Text text) it = it ≡ text
IsTextOf file source (loaded.File name) it = IfSome (file source name) (λ bytes. it ≡ bytes)

-- why there is no text: a file that can't be read, or lack of memory
abbrev pub IsTextless : Loaded → Failure → Type 0
IsTextless (loaded.Text text) failure = failure ≡ out_of_memory
IsTextless (loaded.File name) failure = (failure ≡ Refused refusal.CannotRead) ⊎ (failure ≡ out_of_memory)

-- nothing is asked of the session, nothing is added to the sums, and the files stay as they are
abbrev pub KeepsAll : {B S : Type 0} → (S → List ℕ → Option (List ℕ)) → Server B S → Server B S → Type 0
KeepsAll file old new =
    (new.backend ≡ old.backend) × (new.sums ≡ old.sums) × (new.history ≡ old.history)
    × ((name : List ℕ) → file new.source name ≡ file old.source name)

-- so many units the session's stream has, and for so many it has room
abbrev pub HasCapacity : {B S : Type 0} → (B → Machine → Type 0) → Server B S → ℕ → ℕ → Type 0
HasCapacity is_session server from capacity =
    (last : Last) × IsLast is_session server last × (from ≡ last.units) × (capacity ≡ most_units - from)

-- the result of a stream that is loaded: its units are inserted behind those that are there; or it is
-- refused, and nothing changes; or memory ran out
abbrev pub LoadsStream : {B S : Type 0} → (B → Machine → Type 0) → Server B S → Prepared → Result Answer Failure → Server B S → Type 0
LoadsStream is_session old stream result new =
    ((from capacity : ℕ) × (units : List (List (List ℕ))) × (inserted : Result Inserted Failure) × HasCapacity is_session old from capacity
    × IsStream stream.text units × (length units ≤ capacity) × InsertsStep is_session old units (none_inserted from) inserted new
    × (result ≡ load_answer stream.left_out inserted))
    ⊎ ((from capacity : ℕ) × (refused : StreamRefusal) × HasCapacity is_session old from capacity
    × IsStreamRefused stream.text capacity refused × (result ≡ Err (Refused (refusal.Stream refused))) × (new ≡ old))
    ⊎ ((result ≡ Err out_of_memory) × (new ≡ old))

-- the result of a load: that of its text, as it came or mended; or why there is none, and nothing changes
abbrev pub LoadsAs : {B S : Type 0} → (B → Machine → Type 0) → (S → List ℕ → Option (List ℕ)) → Server B S → Loaded → Bool
    → Result Answer Failure → Server B S → Type 0
LoadsAs {B} {S} is_session file old it mend result new =
    ((text : List ℕ) × (read : Server B S) × IsTextOf file old.source it text × KeepsAll file old read
    × LoadsStream is_session read (prepared mend text) result new)
    ⊎ ((failure : Failure) × IsTextless it failure × (result ≡ Err failure) × KeepsAll file old new)
