-- The lines of a journal whose records keep steps.
use Rattle.std.specs.Prelude.{◌≡◌, ◌≢◌, ℕ, ◌+◌, List, [], ◌∷◌, ◌++◌, map, ⊤}
use Rattle.edit_journal.specs.declared.line.RowStep.{RowStep}
use Rattle.edit_journal.specs.declared.line.Line.{Line}
use Rattle.edit_journal.specs.Lines.{lines_of}
use Rattle.session_journal.specs.declared.steps.step.RecordedStep.{RecordedStep}
use Rattle.session_journal.specs.RecordRows.{rows_of_step, given_by_step}

-- what lines keep
abbrev pub rows_in : List Line → List RowStep
rows_in = map (λ line. line.step)

-- the lines of steps, where so many ids were given before them, in records from this number on
abbrev pub lines_of_steps : ℕ → ℕ → List RecordedStep → List Line
lines_of_steps given entry [] = []
lines_of_steps given entry (step ∷ steps) = lines_of entry (rows_of_step given step) ++ lines_of_steps (given_by_step given step) (entry + 1) steps

-- how many ids were given after steps
abbrev pub given_by_steps : ℕ → List RecordedStep → ℕ
given_by_steps given [] = given
given_by_steps given (step ∷ steps) = given_by_steps (given_by_step given step) steps

-- the lines are all those of one record
abbrev pub AreOf : ℕ → List Line → Type 0
AreOf entry lines = lines ≡ lines_of entry (rows_in lines)

-- the lines begin with one of another record
abbrev pub BeginOther : ℕ → List Line → Type 0
BeginOther entry [] = ⊤
BeginOther entry (line ∷ lines) = line.entry ≢ entry
