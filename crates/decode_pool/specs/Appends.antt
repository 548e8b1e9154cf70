-- Units that a seat appends to a session's stream, several while it has the lock.
use Rattle.std.specs.Prelude.{◌≡◌, ◌⊎◌, ℕ, ◌+◌, List, [], ◌∷◌, length, Some, None, Result, Ok, Err}
use Rattle.annexb.specs.ByteStream.{joined}
use Rattle.stream_edits.specs.declared.edits.Edit.{Edit}
use Rattle.stream_edits.specs.declared.edits.Edit.TheVariants.{Insert}
use Rattle.stream_edits.specs.declared.receipts.Receipt.{Receipt}
use Rattle.stream_edits.specs.declared.refusals.EditRefused.{EditRefused}
use Rattle.stream_edits.specs.declared.refusals.EditRefused.TheVariants as refusals
use Rattle.stream_edits.specs.Streams.{end_of}
use Rattle.stand_in_session.specs.Machines.{Machine}
use Rattle.decode_pool.specs.declared.appending.Appended.{Appended}
use Rattle.decode_pool.specs.declared.seat.Seat.{Seat}
use Rattle.decode_pool.specs.Seats.{AnswersEditIn, IsReached, NotesEdit}

-- the insertion of a unit after the last one of a session
abbrev pub insertion_into : Machine → List (List ℕ) → Edit
insertion_into machine part = Insert (end_of machine.register.stream) (joined part)

-- a seat edits a session that is named, and notes that
abbrev pub EditsNamed : Machine → Seat → Edit → Result Receipt EditRefused → Machine → Seat → Type 0
EditsNamed from old edit answer to new =
    AnswersEditIn from edit answer to × NotesEdit old edit answer (length to.journal) new

-- a unit is inserted after the last one by an edit of the seat; or there is no memory for its text,
-- and nothing is done
abbrev pub AppendsOne : Machine → Seat → List (List ℕ) → Result Receipt EditRefused → Machine → Seat → Type 0
AppendsOne from old part answer to new =
    EditsNamed from old (insertion_into from part) answer to new
    ⊎ ((answer ≡ Err refusals.Memory) × (to ≡ from) × (new ≡ old))

-- the units that are left are inserted after the last one, one after the other, each by an edit of
-- the session as the one before left it, after so many that were: to the end, or to the first that
-- is refused
abbrev pub AppendsOn : ℕ → Machine → Seat → List (List (List ℕ)) → Appended → Machine → Seat → Type 0
AppendsOn count from old [] appended to new =
    (appended ≡ record { inserted = count; refused = None }) × (to ≡ from) × (new ≡ old)
AppendsOn count from old (part ∷ parts) appended to new = IsReached from
    × (((receipt : Receipt) × (then : Machine) × (next : Seat) × AppendsOne from old part (Ok receipt) then next
    × AppendsOn (count + 1) then next parts appended to new)
    ⊎ ((refused : EditRefused) × AppendsOne from old part (Err refused) to new
    × (appended ≡ record { inserted = count; refused = Some refused })))

-- a seat appends units to a session, which no clause can name, and which nobody else edits meanwhile
abbrev pub AppendsSome : Seat → List (List (List ℕ)) → Appended → Seat → Type 0
AppendsSome old parts appended new =
    (before : Machine) × (after : Machine) × IsReached before × AppendsOn 0 before old parts appended after new
