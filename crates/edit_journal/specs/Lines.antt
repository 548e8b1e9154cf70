-- A journal's lines, and the rows of its table that keep them.
use Rattle.std.specs.Prelude.{◌≡◌, ℕ, ◌+◌, pos, List, [], ◌∷◌, codes}
use Rattle.sqlite_value.specs.declared.value.Value.TheVariants.{Int, Text, Blob}
use Rattle.sqlite_value.specs.Order.{Row}
use Rattle.sqlite_trees.specs.Tree.{Trees}
use Rattle.edit_journal.specs.declared.line.Kind.{Kind}
use Rattle.edit_journal.specs.declared.line.Kind.TheVariants.{InsertFirst, Insert, Delete, Replace, Unit as UnitKind, Given, Load}
use Rattle.edit_journal.specs.declared.line.RowStep.{RowStep}
use Rattle.edit_journal.specs.declared.line.Line.{Line}

-- the word of a row for what its step does
abbrev pub name_of : Kind → List ℕ
name_of InsertFirst = codes "insert_first"
name_of Insert = codes "insert"
name_of Delete = codes "delete"
name_of Replace = codes "replace"
name_of UnitKind = codes "unit"
name_of Given = codes "given"
name_of Load = codes "load"

-- the row of a line, the number of the row first
abbrev pub row_of : ℕ → Line → Row
row_of number line = Int (pos number) ∷ Int (pos line.entry) ∷ Int (pos line.place) ∷ Text (name_of line.step.kind) ∷ Int (pos line.step.id)
    ∷ Int (pos line.step.named) ∷ Blob line.step.text ∷ []

-- the rows of lines, numbered from this one on
abbrev pub rows_from : ℕ → List Line → List Row
rows_from number [] = []
rows_from number (line ∷ lines) = row_of number line ∷ rows_from (number + 1) lines

-- the lines of a record under this number, from this place on
abbrev pub lines_from : ℕ → ℕ → List RowStep → List Line
lines_from entry place [] = []
lines_from entry place (step ∷ steps) = record { entry = entry; place = place; step = step } ∷ lines_from entry (place + 1) steps

-- the lines of a record
abbrev pub lines_of : ℕ → List RowStep → List Line
lines_of entry steps = lines_from entry 0 steps

-- the number of the table
abbrev pub edit_tree : ℕ
edit_tree = 0

-- the database keeps these lines
abbrev pub Keeps : Trees → List Line → Type 0
Keeps db lines = db edit_tree ≡ rows_from 1 lines
