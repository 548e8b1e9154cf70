-- What is said of a script on standard error.
use Rattle.std.specs.Prelude.{◌⊎◌, List, [], ℕ, Option, Result}
use Rattle.console_io.specs.Messages.{Tells}
use Rattle.console_io.specs.declared.chunks.PrintFault.{PrintFault}
use Rattle.edit_script.specs.EditScripts.{HasFirstWrongForEdits}
use Rattle.edit_script.specs.SeatScripts.{HasFirstWrongForSeat}
use Rattle.edit_script.specs.SessionScripts.{HasFirstWrongForSession}
use Rattle.failure_reasons.specs.Lines.{wrong_line}
use Rattle.failure_reasons.specs.declared.script_reasons.explaining.ScriptKind.{ScriptKind}
use Rattle.failure_reasons.specs.declared.script_reasons.explaining.ScriptKind.TheVariants.{Session, Seat, Edits}

-- this message is said, or none where there is no memory for it
abbrev pub MayTell : {T : Type 0} → Result T PrintFault → Type 0 → Option (List ℕ) → Option (List ℕ) → List ℕ → Type 0
MayTell told mute had has message = Tells told mute had has message ⊎ Tells told mute had has []

-- the line of this number is the first of a script's text that is wrong for what it's for
abbrev pub HasFirstWrong : ScriptKind → List ℕ → ℕ → Type 0
HasFirstWrong Session text number = HasFirstWrongForSession text number
HasFirstWrong Seat text number = HasFirstWrongForSeat text number
HasFirstWrong Edits text number = HasFirstWrongForEdits text number

-- nothing is said, or why the first wrong line is no command
abbrev pub Explains : {T : Type 0} → Result T PrintFault → Type 0 → Option (List ℕ) → Option (List ℕ) → ScriptKind → List ℕ → Type 0
Explains told mute had has kind text = Tells told mute had has []
    ⊎ ((number : ℕ) × HasFirstWrong kind text number × Tells told mute had has (wrong_line text number))
