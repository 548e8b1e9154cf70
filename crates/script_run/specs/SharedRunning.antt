-- The run of a script's commands by a seat of a desk, and what it writes (docs/OUTPUT.md). Each
-- step is one of the seat's calls, whose session no clause can name.
use Rattle.std.specs.Prelude.{◌≡◌, ℕ, ◌-◌, ◌≤◌, Bool, List, [], ◌∷◌, length, Result, Ok, Err, Option, IfSome, ◌⊎◌}
use Rattle.annexb.specs.ByteStream.{joined}
use Rattle.access_unit.specs.StreamUnits.{IsStream, IsStreamRefused, most_units}
use Rattle.access_unit.specs.declared.stream_units.Refusal.{Refusal}
use Rattle.stream_edits.specs.declared.edits.Edit.{Edit}
use Rattle.stream_edits.specs.declared.edits.Edit.TheVariants.{Insert}
use Rattle.stream_edits.specs.declared.group_refused.GroupRefused.{GroupRefused}
use Rattle.stream_edits.specs.declared.receipts.GroupReceipt.{GroupReceipt}
use Rattle.stream_edits.specs.declared.receipts.Last.{Last}
use Rattle.stream_edits.specs.declared.receipts.Receipt.{Receipt}
use Rattle.stream_edits.specs.declared.refusals.EditRefused.{EditRefused}
use Rattle.stream_edits.specs.declared.refusals.EditRefused.TheVariants as refusals
use Rattle.stand_in_session.specs.declared.jobs.Dropping.{Dropping}
use Rattle.stand_in_session.specs.Showing.{Shown}
use Rattle.decode_pool.specs.Seats.{DropsOne, EditsGroupOne, EditsOne, IsLastOfOne, ShowsOne, WaitsForOne, WaitsForUnit}
use Rattle.decode_pool.specs.declared.seat.Seat.{Seat}
use Rattle.decode_pool.specs.declared.state.settling.Settled.TheVariants as settled
use Rattle.console_io.specs.Inputs.{Files}
use Rattle.unit_printing.specs.Refusals.{refusal_text}
use Rattle.edit_script.specs.SeatScripts.{IsSeatScript}
use Rattle.edit_script.specs.Words.{id_of}
use Rattle.edit_script.specs.declared.seat_commands.SeatCommand.{SeatCommand}
use Rattle.edit_script.specs.declared.seat_commands.SeatCommand.TheVariants as seat
use Rattle.script_run.specs.Answers.{edit_line, refused_line, loaded_line}
use Rattle.script_run.specs.GroupLines.{group_answer_line}
use Rattle.script_run.specs.JobLines.{cleared_line, dropped_line, settled_line}
use Rattle.stream_edits.specs.Streams.{place_after}
use Rattle.script_run.specs.Sequences.{AreAnswered, AreWritten}
use Rattle.script_run.specs.ShownLines.{shown_line}
use Rattle.script_run.specs.WantedLines.{rest_line, want_line}

-- a desk's only seat, which has noted nothing
abbrev pub IsNew : Seat → Type 0
IsNew seat = (seat.number ≡ 1) × (seat.book.receipts.items ≡ [])

-- the seat edits, and the line is that of its answer
abbrev pub Edits : Seat → Edit → List ℕ → Seat → Type 0
Edits old edit line new = (answer : Result Receipt EditRefused) × EditsOne old edit answer new × (line ≡ edit_line answer)

-- the seat makes edits together, and the line is that of its answer
abbrev pub EditsGroup : Seat → List Edit → List ℕ → Seat → Type 0
EditsGroup old edits line new =
    (answer : Result GroupReceipt GroupRefused) × EditsGroupOne old edits answer new × (line ≡ group_answer_line answer)

-- no unit was pending, or all that is wanted was done while the rest isn't decoded, and the line
-- says so
abbrev pub Settles : List ℕ → Type 0
Settles line = (WaitsForOne settled.Done ⊎ WaitsForOne settled.Rested) × (line ≡ settled_line)

-- the unit of the number wasn't pending, and the line says so
abbrev pub SettlesFor : ℕ → List ℕ → Type 0
SettlesFor number line = WaitsForUnit (id_of number) settled.Done × (line ≡ settled_line)

-- the seat is shown the unit of the number, and the line is that of its answer
abbrev pub ShowsLine : Bool → Seat → ℕ → List ℕ → Seat → Type 0
ShowsLine hex old number line new =
    (answer : Shown) × ShowsOne old (id_of number) (Ok answer) new × (line ≡ shown_line hex number answer)

-- the seat drops the picture of the unit of the number, and the line is that of its answer
abbrev pub Drops : Seat → ℕ → List ℕ → Seat → Type 0
Drops old number line new =
    (answer : Dropping) × DropsOne old (id_of number) (Ok answer) new × (line ≡ dropped_line number answer)

-- a unit is inserted after the last one by an edit of the seat; or there is no memory for its text,
-- and nothing is done
abbrev pub InsertsLast : Seat → List (List ℕ) → Result Receipt EditRefused → Seat → Type 0
InsertsLast old part answer new =
    ((last : Last) × IsLastOfOne last × EditsOne old (Insert (place_after last.id) (joined part)) answer new)
    ⊎ ((answer ≡ Err refusals.Memory) × (new ≡ old))

-- the units that are left are inserted after the last one, each by an edit, of so many in all: to
-- the end, or to the first edit that is refused
abbrev pub InsertsAll : ℕ → Seat → List (List (List ℕ)) → List ℕ → Seat → Type 0
InsertsAll count old [] lines new = (lines ≡ loaded_line count) × (new ≡ old)
InsertsAll count old (part ∷ parts) lines new =
    ((receipt : Receipt) × (next : Seat) × InsertsLast old part (Ok receipt) next × InsertsAll count next parts lines new)
    ⊎ ((refused : EditRefused) × InsertsLast old part (Err refused) new × (lines ≡ refused_line refused))

-- for how many more units a stream has room, of a session that no clause can name
abbrev pub IsCapacityOfOne : ℕ → Type 0
IsCapacityOfOne capacity = (last : Last) × IsLastOfOne last × (capacity ≡ most_units - last.units)

-- a text is loaded: its units are inserted, or it is refused and the seat notes nothing
abbrev pub Loads : Seat → List ℕ → List ℕ → Seat → Type 0
Loads old text lines new = (capacity : ℕ) × IsCapacityOfOne capacity
    × (((parts : List (List (List ℕ))) × IsStream text parts × (length parts ≤ capacity)
    × InsertsAll (length parts) old parts lines new)
    ⊎ ((refusal : Refusal) × IsStreamRefused text capacity refusal × (lines ≡ refusal_text refusal) × (new ≡ old)))

-- a command is answered by the lines, and leads from one state of the seat to the other
abbrev pub Answers : Files → Bool → Seat → SeatCommand → List ℕ → Seat → Type 0
Answers files hex old (seat.Edit edit) lines new = Edits old edit lines new
Answers files hex old (seat.Group edits) lines new = EditsGroup old edits.items lines new
Answers files hex old (seat.Load path) lines new =
    (text : List ℕ) × IfSome (files path.now) (λ bytes. text ≡ bytes) × Loads old text lines new
Answers files hex old seat.Settle lines new = Settles lines × (new ≡ old)
Answers files hex old (seat.SettleFor number) lines new = SettlesFor number lines × (new ≡ old)
Answers files hex old (seat.Show number) lines new = ShowsLine hex old number lines new
Answers files hex old (seat.Drop number) lines new = Drops old number lines new
Answers files hex old seat.Clear lines new = (lines ≡ cleared_line) × (new ≡ old)
Answers files hex old (seat.Want ids) lines new = (lines ≡ want_line ids.items) × (new ≡ old)
Answers files hex old (seat.Rest rest) lines new = (lines ≡ rest_line rest) × (new ≡ old)

-- the commands are answered one after the other, by these lines in all
abbrev pub Runs : Files → Bool → Seat → List SeatCommand → List ℕ → Seat → Type 0
Runs files hex from commands lines to = AreAnswered (Answers files hex) from commands lines to

-- the lines that answer the commands were written
abbrev pub WritesRun : Files → Bool → Seat → List SeatCommand → Seat → Option (List ℕ) → Option (List ℕ) → Type 0
WritesRun files hex from commands to old new = AreWritten (Answers files hex) from commands to old new

-- the text is a script of a seat, and what answers its commands was written: they were run by a
-- desk's only seat, from its first call on, and pictures have their digits or not
pub record WritesScript (files : Files) (text : List ℕ) (hex : Bool) (old new : Option (List ℕ)) : Type 0 where
  pub commands : List SeatCommand
  pub first : Seat
  pub last : Seat
  pub read : IsSeatScript text commands
  pub begins : IsNew first
  pub answered : WritesRun files hex first commands last old new

-- the same, and the seat is left so
abbrev pub WritesScriptTo : Files → List ℕ → Bool → Seat → Option (List ℕ) → Option (List ℕ) → Type 0
WritesScriptTo files text hex last old new = (run : WritesScript files text hex old new) × (run.last ≡ last)
