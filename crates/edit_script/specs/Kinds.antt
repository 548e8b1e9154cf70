-- Scripts whose commands are all of one kind (docs/OUTPUT.md).
use Rattle.std.specs.Prelude.{◌≡◌, ℕ, ◌⊎◌, ⊤, List, ◌∷◌, ◌++◌, map, Option, Some, Result, Ok, Err}
use Rattle.std.specs.Global.{Vec}
use Rattle.edit_script.specs.declared.commands.Command.{Command}
use Rattle.edit_script.specs.declared.script.ScriptFault.{ScriptFault}
use Rattle.edit_script.specs.declared.script.ScriptFault.TheVariants.{Line, Memory}
use Rattle.edit_script.specs.Scripts.{read_lines, AreRead, IsScript}

-- of a kind of commands, each of which is one of all
module _ {C : Type 0} (as_command : C → Command) where
  -- the commands are these of the kind, whatever their numbers
  abbrev pub AreOfKind : List (ℕ × Command) → List C → Type 0
  AreOfKind numbered commands = map (λ it. it.1) numbered ≡ map as_command commands

  -- the text is a script of these commands of the kind
  abbrev pub IsScriptOf : List ℕ → List C → Type 0
  IsScriptOf text commands = IsScript text (map as_command commands)

  -- the text is no script, its first wrong line has this number, and all commands before it are of
  -- the kind
  pub record IsWrongForAll (text : List ℕ) (number : ℕ) : Type 0 where
    pub numbered : List (ℕ × Command)
    pub commands : List C
    pub read : AreRead (read_lines text) numbered (Some number)
    pub of_kind : AreOfKind numbered commands

  -- of the commands that are read of the text, the first that isn't of the kind has this number
  pub record IsNoneOfKind (text : List ℕ) (number : ℕ) : Type 0 where
    pub before : List (ℕ × Command)
    pub commands : List C
    pub command : Command
    pub after : List (ℕ × Command)
    pub wrong : Option ℕ
    pub read : AreRead (read_lines text) (before ++ (number, command) ∷ after) wrong
    pub of_kind : AreOfKind before commands
    pub none : (it : C) → ¬ (as_command it ≡ command)

  -- the first line that is wrong, or is a command that isn't of the kind, has this number
  abbrev pub HasFirstWrongFor : List ℕ → ℕ → Type 0
  HasFirstWrongFor text number = IsWrongForAll text number ⊎ IsNoneOfKind text number

  -- an answer for a text: the commands of the kind that it is a script of, or its first line that
  -- is wrong for the kind, or that memory ran out
  abbrev pub IsReadAs : List ℕ → Result (Vec C) ScriptFault → Type 0
  IsReadAs text (Ok commands) = IsScriptOf text commands.items
  IsReadAs text (Err (Line number)) = HasFirstWrongFor text number
  IsReadAs text (Err Memory) = ⊤
