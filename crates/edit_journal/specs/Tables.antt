-- The list of tables in a journal.
use Rattle.std.specs.Prelude.{◌≡◌, ◌⊎◌, IsTrue, List, [], ◌∷◌, map, take, pos, codes}
use Rattle.sqlite_value.specs.declared.value.Value.TheVariants.{Int, Text}
use Rattle.sqlite_value.specs.Order.{Row}
use Rattle.sqlite_trees.specs.Objects.{catalog_tree}
use Rattle.sqlite_trees.specs.Tree.{Trees}
use Rattle.sqlite_trees.specs.View.{View}
use Rattle.edit_journal.specs.declared.line.Line.{Line}
use Rattle.edit_journal.specs.Lines.{Keeps}

-- the row of the table in the list: its place, type, name, table and text
abbrev pub listed : Row
listed = Int (pos 1) ∷ Text (codes "table") ∷ Text (codes "edit") ∷ Text (codes "edit")
    ∷ Text (codes "CREATE TABLE edit (entry INTEGER NOT NULL, place INTEGER NOT NULL, kind TEXT NOT NULL, id INTEGER NOT NULL, named INTEGER NOT NULL, text BLOB NOT NULL) STRICT") ∷ []

-- the database has the table, and no other
abbrev pub Lists : Trees → Type 0
Lists db = map (take 5) (db catalog_tree) ≡ listed ∷ []

-- the database is a journal of these lines
pub record IsJournal (db : Trees) (lines : List Line) : Type 0 where
  pub lists : Lists db
  pub keeps : Keeps db lines

-- the table is made, and committed
pub record Makes (old new : View) : Type 0 where
  pub lists : Lists new.trees
  pub committed : new.trees ≡ new.committed
  pub was_open : IsTrue new.is_open → IsTrue old.is_open

-- the table was there, or it is made
abbrev pub Finds : View → View → Type 0
Finds old new = (Lists old.trees × (new ≡ old)) ⊎ ((¬ Lists old.trees) × Makes old new)
