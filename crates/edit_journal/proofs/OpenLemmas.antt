-- What is read of files that held a journal.
use Rattle.std.proofs.Common.{◌≡◌, Result, Ok, Err, IfOk, IsTrue, List, sym, subst, ◌∙◌}
use Rattle.sqlite_trees.specs.Tree.{Trees}
use Rattle.sqlite_trees.specs.View.{View, IsClean, IsRolledBack}
use Rattle.edit_journal.specs.declared.line.Line.{Line}
use Rattle.edit_journal.specs.Tables.{IsJournal}

pub if_ok_all : {T E : Type 0} (r : Result T E) (P Q R F : T → Type 0) → ((x : T) → P x → Q x → R x → F x) → IfOk r P → IfOk r Q → IfOk r R → IfOk r F
if_ok_all (Ok x) P Q R F then p q r = then x p q r
if_ok_all (Err e) P Q R F then p q r = tt

-- a store that is rolled back has the last commit
pub held_before : (conn given : View) (db : Trees) (lines : List Line) → IsClean given → IsRolledBack conn given → IsTrue given.is_open → conn.committed ≡ db → IsJournal db lines → IsJournal given.committed lines
held_before conn given db lines clean rolled is_open is = subst (λ (t : Trees). IsJournal t lines) (sym ((rolled.kept clean).committed is_open ∙ is))
