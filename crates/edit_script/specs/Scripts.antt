-- The lines of a script, and the commands that they are (docs/OUTPUT.md).
use Rattle.std.specs.Prelude.{◌≡◌, ℕ, ◌+◌, ◌==◌, ◌||◌, ◌⊎◌, not, true, Bool, List, [], ◌∷◌, ◌++◌, codes, length, map, slice_index, Option, Some, None}
use Rattle.std.specs.Global.{Vec}
use Rattle.std.specs.List.{filter, slice_split, AllZip}
use Rattle.std.specs.Str.{IsUtf8}
use Rattle.stream_edits.specs.declared.edits.Edit.{Edit}
use Rattle.edit_script.specs.declared.commands.Command.{Command}
use Rattle.edit_script.specs.declared.commands.Command.TheVariants.{Group}
use Rattle.edit_script.specs.Words.{words_of}
use Rattle.edit_script.specs.Commands.{IsCommand, are_alone, edit_of}

-- what stands between line feeds
abbrev pub lines_of : List ℕ → List (List ℕ)
lines_of text = slice_split (λ byte. byte == 10) text

-- an empty line, or a comment
abbrev pub is_skipped : List ℕ → Bool
is_skipped line = length line == 0 || slice_index line 0 == 35

-- each line with its number, where the first has this one
abbrev pub numbered_from : ℕ → List (List ℕ) → List (ℕ × List ℕ)
numbered_from number [] = []
numbered_from number (line ∷ lines) = (number, line) ∷ numbered_from (number + 1) lines

-- whether a line with its number is to be read
abbrev pub is_read : ℕ × List ℕ → Bool
is_read line = not (is_skipped line.1)

-- the lines of a text that aren't skipped, each with its number, from 1
abbrev pub read_lines : List ℕ → List (ℕ × List ℕ)
read_lines text = filter is_read (numbered_from 1 (lines_of text))

-- the line is text, and its words are this command, which is no group
abbrev pub IsLine : List ℕ → Command → Type 0
IsLine line command = IsUtf8 line × IsCommand (words_of line) command

-- the line is text, and its words are this edit
abbrev pub IsEditLine : List ℕ → Edit → Type 0
IsEditLine line edit = IsUtf8 line × (edit_of (words_of line) ≡ Some edit)

-- the line is text, and this is its only word
abbrev pub IsLone : List ℕ → List ℕ → Type 0
IsLone word line = IsUtf8 line × (are_alone word (words_of line) ≡ true)

-- the line that a group begins with
abbrev pub IsGroupLine : List ℕ → Type 0
IsGroupLine line = IsLone (codes "group") line

-- the line that a group ends with
abbrev pub IsEndLine : List ℕ → Type 0
IsEndLine line = IsLone (codes "end") line

-- the lines are these edits, one each, in order
abbrev pub AreEdits : List (ℕ × List ℕ) → List Edit → Type 0
AreEdits lines edits = AllZip (λ line edit. IsEditLine line.1 edit) lines edits

-- the lines are a group of these edits, which begins at the line of this number
pub record IsGroup (lines : List (ℕ × List ℕ)) (number : ℕ) (edits : List Edit) : Type 0 where
  pub first : List ℕ
  pub inside : List (ℕ × List ℕ)
  pub last : ℕ × List ℕ
  pub are : lines ≡ (number, first) ∷ inside ++ last ∷ []
  pub begins : IsGroupLine first
  pub edited : AreEdits inside edits
  pub ends : IsEndLine last.1

-- the lines are this command, which begins at the line of this number: a line alone, or a group
abbrev pub AreCommand : List (ℕ × List ℕ) → ℕ → Command → Type 0
AreCommand lines number command =
    ((line : List ℕ) × (lines ≡ (number, line) ∷ []) × IsLine line command)
    ⊎ ((edits : Vec Edit) × (command ≡ Group edits) × IsGroup lines number edits.items)

-- the first of the lines has this number, and is neither a command nor the beginning of a group
pub record IsNoCommandAt (lines : List (ℕ × List ℕ)) (number : ℕ) : Type 0 where
  pub line : List ℕ
  pub after : List (ℕ × List ℕ)
  pub are : lines ≡ (number, line) ∷ after
  pub no_command : (command : Command) → ¬ IsLine line command
  pub no_group : ¬ IsGroupLine line

-- the first of the lines begins a group, in which the first line that is no edit has this number
-- and doesn't end it
pub record IsNoEditAt (lines : List (ℕ × List ℕ)) (number : ℕ) : Type 0 where
  pub first : ℕ × List ℕ
  pub inside : List (ℕ × List ℕ)
  pub edits : List Edit
  pub line : List ℕ
  pub after : List (ℕ × List ℕ)
  pub are : lines ≡ first ∷ inside ++ (number, line) ∷ after
  pub begins : IsGroupLine first.1
  pub edited : AreEdits inside edits
  pub no_edit : (edit : Edit) → ¬ IsEditLine line edit
  pub no_end : ¬ IsEndLine line

-- the first of the lines has this number and begins a group, and all others are edits
pub record IsUnclosedAt (lines : List (ℕ × List ℕ)) (number : ℕ) : Type 0 where
  pub first : List ℕ
  pub inside : List (ℕ × List ℕ)
  pub edits : List Edit
  pub are : lines ≡ (number, first) ∷ inside
  pub begins : IsGroupLine first
  pub edited : AreEdits inside edits

-- no command stands at the start of the lines, and the line of this number is to blame
abbrev pub IsWrongAt : List (ℕ × List ℕ) → ℕ → Type 0
IsWrongAt lines number = IsNoCommandAt lines number ⊎ IsNoEditAt lines number ⊎ IsUnclosedAt lines number

-- the lines are these commands, each with its number, to the end or to the first wrong line, which
-- has this number
abbrev pub AreRead : List (ℕ × List ℕ) → List (ℕ × Command) → Option ℕ → Type 0
AreRead lines [] None = lines ≡ []
AreRead lines [] (Some number) = IsWrongAt lines number
AreRead lines (command ∷ commands) wrong =
    (front : List (ℕ × List ℕ)) × (rest : List (ℕ × List ℕ)) × (lines ≡ front ++ rest)
    × AreCommand front command.0 command.1 × AreRead rest commands wrong

-- the text is a script of these commands
abbrev pub IsScript : List ℕ → List Command → Type 0
IsScript text commands =
    (numbered : List (ℕ × Command)) × AreRead (read_lines text) numbered None × (commands ≡ map (λ it. it.1) numbered)
