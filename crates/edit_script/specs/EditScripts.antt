-- Scripts that edit a stream and do nothing else (docs/OUTPUT.md).
use Rattle.std.specs.Prelude.{◌≡◌, ℕ, ◌⊎◌, ⊤, List, ◌∷◌, ◌++◌, map, Option, Some, None, Result, Ok, Err}
use Rattle.std.specs.Global.{Vec}
use Rattle.edit_script.specs.declared.commands.Command.{Command}
use Rattle.edit_script.specs.declared.commands.Command.TheVariants as command
use Rattle.edit_script.specs.declared.edit_commands.EditCommand.{EditCommand}
use Rattle.edit_script.specs.declared.edit_commands.EditCommand.TheVariants as edits
use Rattle.edit_script.specs.declared.script.ScriptFault.{ScriptFault}
use Rattle.edit_script.specs.declared.script.ScriptFault.TheVariants.{Line, Memory}
use Rattle.edit_script.specs.Scripts.{read_lines, AreRead}

-- the command that one of edits is among all
abbrev pub command_of : EditCommand → Command
command_of (edits.Edit edit) = command.Edit edit
command_of (edits.Group group) = command.Group group

-- the same, with the number of its first line
abbrev pub numbered_command : ℕ × EditCommand → ℕ × Command
numbered_command it = (it.0, command_of it.1)

-- the text is a script of these edits and groups, each with the number of its first line
abbrev pub IsEditScript : List ℕ → List (ℕ × EditCommand) → Type 0
IsEditScript text commands = AreRead (read_lines text) (map numbered_command commands) None

-- the text is no script, its first wrong line has this number, and all commands before it are edits
-- and groups
abbrev pub IsWrongAfterEdits : List ℕ → ℕ → Type 0
IsWrongAfterEdits text number =
    (commands : List (ℕ × EditCommand)) × AreRead (read_lines text) (map numbered_command commands) (Some number)

-- of the commands that are read of the text, the first that is neither an edit nor a group has this
-- number
pub record IsNoEdit (text : List ℕ) (number : ℕ) : Type 0 where
  pub before : List (ℕ × EditCommand)
  pub command : Command
  pub after : List (ℕ × Command)
  pub wrong : Option ℕ
  pub read : AreRead (read_lines text) (map numbered_command before ++ (number, command) ∷ after) wrong
  pub none : (it : EditCommand) → ¬ (command_of it ≡ command)

-- the first line that is wrong, or is a command that is neither an edit nor a group, has this
-- number
abbrev pub HasFirstWrongForEdits : List ℕ → ℕ → Type 0
HasFirstWrongForEdits text number = IsWrongAfterEdits text number ⊎ IsNoEdit text number

-- an answer for a text: the edits and groups that it is a script of, or its first line that is
-- wrong in such a script, or that memory runs out
abbrev pub IsReadForEdits : List ℕ → Result (Vec (ℕ × EditCommand)) ScriptFault → Type 0
IsReadForEdits text (Ok commands) = IsEditScript text commands.items
IsReadForEdits text (Err (Line number)) = HasFirstWrongForEdits text number
IsReadForEdits text (Err Memory) = ⊤
