-- The files that a script loads, and what is said of a script and of them.
use Rattle.std.specs.Prelude.{◌≡◌, ◌≤◌, ◌⊎◌, ℕ, List, [], length, take, Option, Some, None, IfSome}
use Rattle.std.specs.List.{filter_map}
use Rattle.console_io.specs.Inputs.{Files}
use Rattle.edit_script.specs.SeatScripts.{IsSeatScript}
use Rattle.edit_script.specs.SessionScripts.{IsSessionScript}
use Rattle.edit_script.specs.declared.seat_commands.SeatCommand.{SeatCommand}
use Rattle.edit_script.specs.declared.seat_commands.SeatCommand.TheVariants as seat
use Rattle.edit_script.specs.declared.session_commands.SessionCommand.{SessionCommand}
use Rattle.edit_script.specs.declared.session_commands.SessionCommand.TheVariants as session
use Rattle.failure_reasons.specs.declared.script_reasons.explaining.ScriptKind.{ScriptKind}
use Rattle.failure_reasons.specs.declared.script_reasons.explaining.ScriptKind.TheVariants.{Session, Seat, Edits}
use Rattle.failure_reasons.specs.FailureReasonsLines.{AreFileLines, MayHaveWrong, unread_script}

-- the name of the file that a command of a session loads
abbrev pub session_load : SessionCommand → Option (List ℕ)
session_load (session.Load path) = Some path.now
session_load command = None

-- that of one of a seat
abbrev pub seat_load : SeatCommand → Option (List ℕ)
seat_load (seat.Load path) = Some path.now
seat_load command = None

-- the files that a script of this text loads have these names, in order; edits alone load none
abbrev pub LoadsFiles : ScriptKind → List ℕ → List (List ℕ) → Type 0
LoadsFiles Session text names =
    (commands : List SessionCommand) × IsSessionScript text commands × (names ≡ filter_map session_load commands)
LoadsFiles Seat text names =
    (commands : List SeatCommand) × IsSeatScript text commands × (names ≡ filter_map seat_load commands)
LoadsFiles Edits text names = names ≡ []

-- lines for the first files that a script of this text loads
pub record AreLoadLines (kind : ScriptKind) (files : Files) (text lines : List ℕ) : Type 0 where
  pub names : List (List ℕ)
  pub loads : LoadsFiles kind text names
  pub count : ℕ
  pub within : count ≤ length names
  pub said : AreFileLines files (take count names) lines

-- what may be said of a script of this text: why its first wrong line is no command, or lines for files
-- that it loads
abbrev pub AreTextLines : ScriptKind → Files → List ℕ → List ℕ → Type 0
AreTextLines kind files text lines = MayHaveWrong kind text lines ⊎ AreLoadLines kind files text lines

-- what may be said of the script of a name: nothing, that it can't be read, or what its text tells
abbrev pub AreScriptLines : ScriptKind → Files → List ℕ → List ℕ → Type 0
AreScriptLines kind files name lines = (lines ≡ [])
    ⊎ ((words : List ℕ) × (lines ≡ unread_script name words))
    ⊎ ((text : List ℕ) × IfSome (files name) (λ bytes. text ≡ bytes) × AreTextLines kind files text lines)
