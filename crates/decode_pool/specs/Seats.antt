-- What seats are answered and note.
use Rattle.std.specs.Prelude.{◌≡◌, ◌⊎◌, ℕ, ◌+◌, List, [], ◌∷◌, ◌++◌, length, slice_get, Some, IfOk, Result, Ok, Err}
use Rattle.std.specs.declared.alloc.AllocError.{AllocError}
use Rattle.stream_edits.specs.declared.edits.Edit.{Edit}
use Rattle.stream_edits.specs.declared.group_refused.GroupRefused.{GroupRefused}
use Rattle.stream_edits.specs.declared.receipts.GroupReceipt.{GroupReceipt}
use Rattle.stream_edits.specs.declared.receipts.Receipt.{Receipt}
use Rattle.stream_edits.specs.declared.receipts.Last.{Last}
use Rattle.stream_edits.specs.declared.refusals.EditRefused.{EditRefused}
use Rattle.stream_edits.specs.declared.refusals.EditRefused.TheVariants as refusals
use Rattle.stand_in_device.specs.KeyPictures.{IsPicture}
use Rattle.stand_in_device.specs.declared.picture.Picture.{Picture}
use Rattle.stand_in_session.specs.declared.jobs.Dropping.{Dropping}
use Rattle.stand_in_session.specs.Showing.{Shown, Shows}
use Rattle.stream_session.specs.Grouping.{AnswersGroup}
use Rattle.stand_in_session.specs.Machines.{Machine}
use Rattle.stream_session.specs.Machines.{AnswersEdit}
use Rattle.stand_in_session.specs.Needing.{AnswersDrop}
use Rattle.seat_books.specs.declared.receipts.SeatReceipt.{SeatReceipt}
use Rattle.seat_books.specs.declared.receipts.SeatReceipt.TheVariants as receipts
use Rattle.decode_pool.specs.declared.seat.Seat.{Seat}
use Rattle.decode_pool.specs.Waits as waits
use Rattle.decode_pool.specs.declared.state.settling.Settled.{Settled}

-- seats with the numbers from 1 on, so many, that have noted nothing
abbrev pub AreNew : ℕ → List Seat → Type 0
AreNew n seats =
    (length seats ≡ n)
    × ((at : ℕ) (seat : Seat) → slice_get seats at ≡ Some seat
    → (seat.number ≡ at + 1) × (seat.book.receipts.items ≡ []))

-- what a seat answers to an edit of a session that is lent: what the session answers; or memory for
-- the book is refused, and nothing changes
abbrev pub AnswersEditIn : Machine → Edit → Result Receipt EditRefused → Machine → Type 0
AnswersEditIn old edit answer new =
    AnswersEdit old edit answer new ⊎ ((answer ≡ Err refusals.Memory) × (new ≡ old))

-- the seat's book has one receipt more
abbrev pub Notes : Seat → SeatReceipt → Seat → Type 0
Notes old receipt new =
    (new.number ≡ old.number) × (new.book.receipts.items ≡ old.book.receipts.items ++ receipt ∷ [])

-- the seat's book has the same receipts
abbrev pub NotesNothing : Seat → Seat → Type 0
NotesNothing old new = (new.number ≡ old.number) × (new.book.receipts.items ≡ old.book.receipts.items)

-- an accepted edit is noted with the id that it was answered and the journal's length, a refused
-- one isn't
abbrev pub NotesEdit : Seat → Edit → Result Receipt EditRefused → ℕ → Seat → Type 0
NotesEdit old edit (Ok receipt) n new = Notes old (receipts.Edit edit receipt.id n) new
NotesEdit old edit (Err refused) n new = NotesNothing old new

-- an accepted group is noted as one receipt, with the ids that it was answered and the journal's
-- length, a refused one isn't
abbrev pub NotesGroup : Seat → List Edit → Result GroupReceipt GroupRefused → ℕ → Seat → Type 0
NotesGroup old edits (Ok receipt) n new =
    Notes old (receipts.Group (record { edits = edits; ids = receipt.ids.items }) n) new
NotesGroup old edits (Err refused) n new = NotesNothing old new

-- what is shown is noted with the journal's length; where memory runs out, nothing is shown
abbrev pub NotesShow : Seat → ℕ → Result Shown AllocError → ℕ → Seat → Type 0
NotesShow old id (Ok answer) n new = Notes old (receipts.Show id answer n) new
NotesShow old id (Err wanted) n new = NotesNothing old new

-- what a seat answers to a drop on a session that is lent: what the session answers; or memory for
-- the book is refused, and nothing changes
abbrev pub AnswersDropIn : Machine → ℕ → Result Dropping AllocError → Machine → Type 0
AnswersDropIn old id (Ok answer) new = AnswersDrop old id answer new
AnswersDropIn old id (Err wanted) new = new ≡ old

-- what is answered to a drop is noted with the journal's length; where memory runs out, nothing is
-- dropped
abbrev pub NotesDrop : Seat → ℕ → Result Dropping AllocError → ℕ → Seat → Type 0
NotesDrop old id (Ok answer) n new = Notes old (receipts.Drop id answer n) new
NotesDrop old id (Err wanted) n new = NotesNothing old new

-- the session's stream is what its journal leads to
abbrev pub IsReached : Machine → Type 0
IsReached machine = waits.IsReached machine

-- a seat edits a session, which no clause can name
abbrev pub EditsOne : Seat → Edit → Result Receipt EditRefused → Seat → Type 0
EditsOne old edit answer new =
    (before : Machine) × (after : Machine) × IsReached before × AnswersEditIn before edit answer after
    × NotesEdit old edit answer (length after.journal) new

-- a seat makes a group of edits on a session, which no clause can name
abbrev pub EditsGroupOne : Seat → List Edit → Result GroupReceipt GroupRefused → Seat → Type 0
EditsGroupOne old edits answer new =
    (before : Machine) × (after : Machine) × IsReached before × AnswersGroup before edits answer after
    × NotesGroup old edits answer (length after.journal) new

-- a seat is shown a unit of a session, which no clause can name
abbrev pub ShowsOne : Seat → ℕ → Result Shown AllocError → Seat → Type 0
ShowsOne old id answer new =
    (machine : Machine) × IsReached machine × IfOk answer (λ it. Shows machine id it)
    × NotesShow old id answer (length machine.journal) new

-- a seat drops a picture of a session, which no clause can name
abbrev pub DropsOne : Seat → ℕ → Result Dropping AllocError → Seat → Type 0
DropsOne old id answer new =
    (before : Machine) × (after : Machine) × IsReached before × AnswersDropIn before id answer after
    × NotesDrop old id answer (length after.journal) new

-- the end of the stream of a session, which no clause can name
abbrev pub IsLastOfOne : Last → Type 0
IsLastOfOne last = waits.IsLastOfOne Picture last

-- no unit is pending, or one is, or all that is wanted is done, of a session and of what is wanted
-- of it, which no clause can name
abbrev pub WaitsForOne : Settled → Type 0
WaitsForOne answer = waits.WaitsForOne IsPicture answer

-- the unit of the id isn't pending, or it is, of a session that no clause can name
abbrev pub WaitsForUnit : ℕ → Settled → Type 0
WaitsForUnit id answer = waits.WaitsForUnit IsPicture id answer
