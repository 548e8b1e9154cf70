-- The journal, entry by entry.
use Rattle.std.specs.Prelude.{◌≡◌, ℕ, List, [], length, Result, Ok, Err, slice_get, option_and_then}
use Rattle.std.specs.Option.{option_map}
use Rattle.stream_edits.specs.declared.edits.Edit.{Edit}
use Rattle.stream_edits.specs.declared.edits.Edit.TheVariants.{Delete, Insert, Replace}
use Rattle.stream_edits.specs.declared.edits.InsertionPoint.TheVariants.{After, First}
use Rattle.c_calls.specs.Machines.{Machine}
use Rattle.c_calls.specs.declared.journaling.JournalEdit.{JournalEdit}
use Rattle.c_calls.specs.Filling.{Fills}
use Rattle.c_calls.specs.Statuses.{no_such_place}
use Rattle.c_calls.specs.Telling.{found_or}

-- an edit, as it is told: its kind, the id that it names, if it names one, and how many bytes its
-- text has
abbrev pub as_journal_edit : Edit → JournalEdit
as_journal_edit (Insert First text) = record { kind = 0; id = 0; bytes = length text }
as_journal_edit (Insert (After id) text) = record { kind = 1; id = id; bytes = length text }
as_journal_edit (Delete id) = record { kind = 2; id = id; bytes = 0 }
as_journal_edit (Replace id text) = record { kind = 3; id = id; bytes = length text }

-- the edit at an index of an entry of the journal
abbrev pub edit_in : Machine → ℕ → ℕ → Result Edit ℕ
edit_in machine entry index =
    found_or no_such_place (option_and_then (λ edits. slice_get edits index) (slice_get machine.journal entry))

-- how many edits an entry has
abbrev pub edits_at : Machine → ℕ → Result ℕ ℕ
edits_at machine entry = found_or no_such_place (option_map length (slice_get machine.journal entry))

-- the bytes of an edit's text
abbrev pub bytes_of : Edit → List ℕ
bytes_of (Insert place text) = text
bytes_of (Delete id) = []
bytes_of (Replace id text) = text

-- the text of an edit is written into a buffer
abbrev pub FillsText : Result Edit ℕ → ℕ → List ℕ → List ℕ → ℕ → ℕ → Type 0
FillsText (Ok edit) status old new was needed = Fills (bytes_of edit) status old new needed
FillsText (Err why) status old new was needed = (status ≡ why) × (new ≡ old) × (needed ≡ was)
