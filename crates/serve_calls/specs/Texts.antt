-- Texts as they were given: that of a unit, and those of the journal.
use Rattle.std.specs.Prelude.{ℕ, List, map, take, drop, Option, None, Some, Result, Ok, Err}
use Rattle.base64.specs.Engines.{standard}
use Rattle.base64.specs.GeneralPurpose.{encode_of}
use Rattle.edit_script.specs.Words.{id_of}
use Rattle.stand_in_session.specs.Machines.{Machine}
use Rattle.stream_edits.specs.declared.edits.Edit.{Edit}
use Rattle.stream_edits.specs.Edits.{Register}
use Rattle.edit_history.specs.declared.undo_redo.undo_redo.UndoRedo.{UndoRedo}
use Rattle.edit_history.specs.KeptTexts.{IsKept}
use Rattle.edit_history.specs.Snapshots.{IsTextOf}
use Rattle.serve_requests.specs.declared.failure.Failure.{Failure}
use Rattle.serve_requests.specs.declared.failure.Failure.TheVariants.{Refused}
use Rattle.serve_requests.specs.declared.failure.CallRefusal.TheVariants as refusal
use Rattle.serve_answers.specs.JournalAnswers.{entry_answer}
use Rattle.serve_answers.specs.declared.answer.Answer.{Answer}
use Rattle.serve_answers.specs.declared.answer.Answer.TheVariants.{Journal, Text}
use Rattle.serve_calls.specs.Failing.{IsUnlessMemory}
use Rattle.serve_calls.specs.Sessions.{Asks}

-- the result of a question for the text of a unit, or that there is no such unit
abbrev pub text_answer : Option (List ℕ) → Result Answer Failure
text_answer (Some text) = Ok (Text (encode_of standard text))
text_answer None = Err (Refused refusal.NoSuchUnit)

-- what is told is the text of the unit, or that there is none, of any stream whose texts are kept
abbrev pub TellsText : UndoRedo → ℕ → Result Answer Failure → Type 0
TellsText history number result =
    (text : Option (List ℕ)) × IsUnlessMemory (text_answer text) result
    × ((register : Register) → IsKept history.units register → IsTextOf register (id_of number) text)

-- the result of a question for so many entries of the journal, from one on
abbrev pub journal_answer : List (List Edit) → Result Answer Failure
journal_answer entries = Ok (Journal (map entry_answer entries))

abbrev pub TellsJournal : (Machine → Type 0) → ℕ → ℕ → Result Answer Failure → Type 0
TellsJournal is_session from count result =
    Asks is_session (λ machine. IsUnlessMemory (journal_answer (take count (drop from machine.journal))) result)
