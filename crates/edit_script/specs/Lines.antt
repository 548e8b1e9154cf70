-- What reading a script's lines answers.
use Rattle.std.specs.Prelude.{◌≡◌, ◌<◌, ◌≤◌, ℕ, true, false, List, codes, length, map, take, Some, None}
use Rattle.std.specs.Borrow.{Bor}
use Rattle.stream_edits.specs.declared.edits.Edit.{Edit}
use Rattle.edit_script.specs.declared.commands.Command.{Command}
use Rattle.edit_script.specs.declared.groups.Front.{Front}
use Rattle.edit_script.specs.declared.groups.Front.TheVariants as front
use Rattle.edit_script.specs.declared.lines.Inside.{Inside}
use Rattle.edit_script.specs.declared.lines.Inside.TheVariants as inside
use Rattle.edit_script.specs.declared.lines.Outside.{Outside}
use Rattle.edit_script.specs.declared.lines.Outside.TheVariants as outside
use Rattle.edit_script.specs.Commands.{IsCommand, are_alone, edit_of}
use Rattle.edit_script.specs.Scripts.{AreCommand, IsEditLine, IsEndLine, IsGroupLine, IsLine, IsWrongAt}

-- the lines that are lent, each with its number
abbrev pub numbered_of : List (ℕ × Bor (List ℕ)) → List (ℕ × List ℕ)
numbered_of lines = map (λ line. (line.0, line.1.now)) lines

-- what words are that stand outside groups
abbrev pub AreOutside : List (List ℕ) → Outside → Type 0
AreOutside words (outside.Command command) = IsCommand words command
AreOutside words outside.Group = are_alone (codes "group") words ≡ true
AreOutside words outside.Wrong =
    ((command : Command) → ¬ IsCommand words command) × (are_alone (codes "group") words ≡ false)

-- what a line is that stands outside groups
abbrev pub IsOutside : List ℕ → Outside → Type 0
IsOutside line (outside.Command command) = IsLine line command
IsOutside line outside.Group = IsGroupLine line
IsOutside line outside.Wrong = ((command : Command) → ¬ IsLine line command) × ¬ IsGroupLine line

-- what words are in a group, behind its first line
abbrev pub AreInside : List (List ℕ) → Inside → Type 0
AreInside words (inside.Edit edit) = edit_of words ≡ Some edit
AreInside words inside.End = are_alone (codes "end") words ≡ true
AreInside words inside.Wrong = (edit_of words ≡ None) × (are_alone (codes "end") words ≡ false)

-- what a line is in a group, behind its first
abbrev pub IsInside : List ℕ → Inside → Type 0
IsInside line (inside.Edit edit) = IsEditLine line edit
IsInside line inside.End = IsEndLine line
IsInside line inside.Wrong = ((edit : Edit) → ¬ IsEditLine line edit) × ¬ IsEndLine line

-- what stands at the start of the lines: a command, which so many of them are, or none
abbrev pub IsFront : List (ℕ × List ℕ) → Front → Type 0
IsFront lines (front.Command number command count) =
    AreCommand (take count lines) number command × (0 < count) × (count ≤ length lines)
IsFront lines (front.Wrong number) = IsWrongAt lines number
