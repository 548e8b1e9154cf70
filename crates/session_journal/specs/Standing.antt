-- Steps that stand in a journal's store.
use Rattle.std.specs.Prelude.{◌≡◌, ℕ, ◌<◌, List, [], ◌∷◌, ◌++◌, length, min, take, Option, None, Some, IsTrue, false}
use Rattle.sqlite_trees.specs.Tree.{Trees}
use Rattle.sqlite_trees.specs.View.{IsClean}
use Rattle.sqlite_trees.specs.declared.store.Store.{Ghosts}
use Rattle.stream_edits.specs.declared.edits.Edit.{Edit}
use Rattle.edit_journal.specs.declared.journal.Journal.{Journal}
use Rattle.edit_journal.specs.Journals.{Lasts}
use Rattle.edit_journal.specs.declared.line.RowStep.{RowStep}
use Rattle.edit_journal.specs.Lines.{Keeps, lines_of}
use Rattle.session_journal.specs.declared.steps.step.RecordedStep.{RecordedStep}
use Rattle.session_journal.specs.declared.steps.step.RecordedStep.TheVariants.{Edits, Load, Snapshot}
use Rattle.session_journal.specs.RecordRows.{rows_of_step}
use Rattle.session_journal.specs.Records.{given_by_steps, lines_of_steps}
use Rattle.session_journal.specs.declared.session_journal.SessionJournal.{SessionJournal}

-- as many records as steps, whose lines are all that the store keeps; and a crash leaves them
pub record HasSteps {S : Type 0} (g : Ghosts S) (journal : Journal S) (steps : List RecordedStep) : Type 0 where
  pub entries : journal.entries ≡ length steps
  pub lasts : IsClean (g.view journal.store) → IsTrue (g.view journal.store).is_open → Lasts g journal.store journal.rows (lines_of_steps 0 1 steps)

-- the journal has the steps, unless one that wasn't made couldn't be taken off
abbrev pub Holds : {S : Type 0} → Ghosts S → SessionJournal S → List RecordedStep → Type 0
Holds g it steps = it.is_shut ≡ false → HasSteps g it.journal steps

-- and their ids are counted
pub record Standing {S : Type 0} (g : Ghosts S) (it : SessionJournal S) (steps : List RecordedStep) : Type 0 where
  pub given : it.given ≡ given_by_steps 0 steps
  pub holds : Holds g it steps

-- the rows are the one record of steps, or none of no steps, and so many ids were given by them
pub record AreRecordOf (rows : List RowStep) (given : ℕ) (steps : List RecordedStep) : Type 0 where
  pub lines : lines_of_steps 0 1 steps ≡ lines_of 1 rows
  pub count : length steps ≡ min 1 (length rows)
  pub ids : given ≡ given_by_steps 0 steps

-- the edits of a load
abbrev pub load_of : RecordedStep → Option (List Edit)
load_of (Edits edits) = None
load_of (Load edits) = Some edits
load_of (Snapshot snapshot) = None

-- the step is the last one, behind these, and its rows are known
pub record IsEnd {S : Type 0} (g : Ghosts S) (it : SessionJournal S) (front : List RecordedStep) (step : RecordedStep) : Type 0 where
  pub stands : Standing g it (front ++ step ∷ [])
  pub before : it.last.before ≡ given_by_steps 0 front
  pub rows : it.last.rows ≡ length (rows_of_step it.last.before step)
  pub some : 0 < it.last.rows
  pub load : it.last.load ≡ load_of step

-- a last step of so many rows is taken off
abbrev pub LeavesNone : {S : Type 0} → Ghosts S → SessionJournal S → ℕ → SessionJournal S → Type 0
LeavesNone g old rows new =
    (front : List RecordedStep) (step : RecordedStep) → 0 < rows → rows ≡ length (rows_of_step (given_by_steps 0 front) step) → Holds g old (front ++ step ∷ []) → Holds g new front

-- in the place of a last step of so many rows stands that whose rows are the first ones
abbrev pub LeavesSome : {S : Type 0} → Ghosts S → SessionJournal S → ℕ → ℕ → SessionJournal S → Type 0
LeavesSome g old rows left new =
    (front : List RecordedStep) (step short : RecordedStep) → rows ≡ length (rows_of_step (given_by_steps 0 front) step)
    → rows_of_step (given_by_steps 0 front) short ≡ take left (rows_of_step (given_by_steps 0 front) step) → Holds g old (front ++ step ∷ []) → Holds g new (front ++ short ∷ [])

-- after a crash the store may keep the steps' lines
pub record CrashLeaves {S : Type 0} (g : Ghosts S) (journal : Journal S) (steps : List RecordedStep) : Type 0 where
  pub clean : IsClean (g.view journal.store)
  pub db : Trees
  pub recovers : g.recovers journal.store db
  pub keeps : Keeps db (lines_of_steps 0 1 steps)
