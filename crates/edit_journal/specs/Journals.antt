-- What calls do to what a store shows, and what a crash leaves.
use Rattle.std.specs.Prelude.{◌≡◌, ◌⊎◌, ℕ, ◌+◌, ◌<◌, ◌≤◌, ◌^◌, List, [], ◌∷◌, length, Option, Some, None, IsTrue, false}
use Rattle.std.specs.List.{AllByRecursion}
use Rattle.sqlite_disk.specs.Disk.{MoreFaults}
use Rattle.sqlite_value.specs.Order.{Row}
use Rattle.sqlite_trees.specs.Tree.{Trees, put_row}
use Rattle.sqlite_trees.specs.View.{View, doubt, IsClean, IsStorableRow, SetsTree, with_cursor}
use Rattle.sqlite_trees.specs.declared.store.Store.{Ghosts}
use Rattle.edit_journal.specs.declared.fault.JournalFault.{JournalFault}
use Rattle.edit_journal.specs.declared.line.Line.{Line}
use Rattle.edit_journal.specs.declared.line.RowStep.{RowStep}
use Rattle.edit_journal.specs.Faults.{HasReason, TellsFault}
use Rattle.edit_journal.specs.Lines.{Keeps, row_of, rows_from, lines_of, edit_tree}

-- the number of the cursor that reads
abbrev pub edit_cursor : ℕ
edit_cursor = 0

-- the cursor stood at this line, or at the end, and has moved on
abbrev pub Takes : View → View → ℕ → Option Line → Type 0
Takes old new number (Some line) = (left : List Row) × (old.cursors edit_cursor ≡ Some (row_of number line ∷ left)) × (new ≡ with_cursor old edit_cursor left)
Takes old new number None = (old.cursors edit_cursor ≡ Some []) × (new ≡ old)

-- only cursors have moved
pub record OnlySeeks (old new : View) : Type 0 where
  pub sound : old.is_broken ≡ false
  pub is : new ≡ record old { cursors = new.cursors }

-- the row is written, and nothing else
abbrev pub PutsRow : View → View → Row → Type 0
PutsRow old new row = SetsTree old new edit_tree (put_row row)

-- the last commit stands, unless the store was shut
pub record KeepsCommit (old new : View) : Type 0 where
  pub was_open : IsTrue new.is_open → IsTrue old.is_open
  pub committed : IsTrue new.is_open → new.committed ≡ old.committed

-- the store keeps these lines, in so many rows
pub record Shows (v : View) (rows : ℕ) (lines : List Line) : Type 0 where
  pub now : Keeps v.trees lines
  pub count : rows ≡ length lines

-- and all of them are committed
pub record Stands (v : View) (rows : ℕ) (lines : List Line) : Type 0 where
  pub shows : Shows v rows lines
  pub committed : Keeps v.committed lines

-- and a crash leaves them
pub record Lasts {S : Type 0} (g : Ghosts S) (s : S) (rows : ℕ) (lines : List Line) : Type 0 where
  pub stands : Stands (g.view s) rows lines
  pub leaves : (db : Trees) → g.recovers s db → Keeps db lines

-- the record and its rows, behind so many rows, have numbers, and each row can be stored
pub record Fits (reals rows entry : ℕ) (steps : List RowStep) : Type 0 where
  pub counted : entry < 2 ^ 32
  pub numbered : rows + length steps < 2 ^ 32
  pub storable : AllByRecursion (IsStorableRow reals) (rows_from (rows + 1) (lines_of entry steps))

-- why a call failed
pub record Fails {S : Type 0} (g : Ghosts S) (old new : S) (TooLarge : Type 0) (fault : JournalFault) : Type 0 where
  pub reason : HasReason (g.view old) (MoreFaults (g.faults old) (g.faults new)) TooLarge fault
  pub told : TellsFault (g.blamed new) fault

-- no failure is forgotten, only one of the disk shuts the store, and a crash leaves what it could leave before, or what the call commits
pub record Survives {S : Type 0} (g : Ghosts S) (old new : S) (Commits : Trees → Type 0) : Type 0 where
  pub clean : doubt (g.view old).is_clean ≤ doubt (g.view new).is_clean
  pub counts : g.faults old ≤ g.faults new
  pub closes : IsClean (g.view new) → IsTrue (g.view old).is_open → IsTrue (g.view new).is_open ⊎ MoreFaults (g.faults old) (g.faults new)
  pub crash : IsClean (g.view new) → (db : Trees) → g.recovers new db → g.recovers old db ⊎ Commits db
