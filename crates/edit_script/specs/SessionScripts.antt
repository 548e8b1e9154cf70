-- Scripts that run on a session alone (docs/OUTPUT.md).
use Rattle.std.specs.Prelude.{ℕ, List}
use Rattle.edit_script.specs.declared.commands.Command.{Command}
use Rattle.edit_script.specs.declared.commands.Command.TheVariants as command
use Rattle.edit_script.specs.declared.session_commands.SessionCommand.{SessionCommand}
use Rattle.edit_script.specs.declared.session_commands.SessionCommand.TheVariants as session
use Rattle.edit_script.specs.Kinds.{HasFirstWrongFor, IsScriptOf}

-- the command that a session's is among all
abbrev pub of_session : SessionCommand → Command
of_session (session.Edit edit) = command.Edit edit
of_session (session.Group edits) = command.Group edits
of_session (session.Load path) = command.Load path
of_session (session.Unit number) = command.Unit number
of_session (session.Json number) = command.Json number
of_session session.Take = command.Take
of_session (session.TakeFor number) = command.TakeFor number
of_session (session.Land number) = command.Land number
of_session (session.GiveBack number) = command.GiveBack number
of_session session.Settle = command.Settle
of_session (session.SettleFor number) = command.SettleFor number
of_session (session.Show number) = command.Show number
of_session (session.Drop number) = command.Drop number
of_session session.Clear = command.Clear
of_session session.Mark = command.Mark
of_session (session.Altered number) = command.Altered number

-- the text is a script of these commands of a session
abbrev pub IsSessionScript : List ℕ → List SessionCommand → Type 0
IsSessionScript text commands = IsScriptOf of_session text commands

-- the first line that is wrong, or is a command that is none of a session's, has this number
abbrev pub HasFirstWrongForSession : List ℕ → ℕ → Type 0
HasFirstWrongForSession text number = HasFirstWrongFor of_session text number
