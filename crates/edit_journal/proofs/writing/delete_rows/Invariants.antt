use Rattle.sqlite_trees.specs.View.{IsClean, IsQuiet, KeepsSchema}
use Rattle.edit_journal.proofs.ViewLemmas.{Deletes}
use Rattle.edit_journal.proofs.writing.delete_rows.Given as goal

-- the rows behind the first `left` are deleted up to this number
abbrev pub invariant-loop-deleted : goal.invariant-loop-deleted
invariant-loop-deleted g l = record {
  deletes : IsClean (g.S.Store.view l.store) → Deletes (g.S.Store.view l.fn.store) (g.S.Store.view l.store) l.rows l.left l.deleted;
  schema : KeepsSchema (g.S.Store.view l.fn.store) (g.S.Store.view l.store);
  quiet : IsQuiet g.S.Store.view g.S.Store.faults g.S.Store.recovers g.S.Store.is_shielded l.fn.store l.store;
}
