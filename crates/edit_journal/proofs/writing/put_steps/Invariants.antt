use Rattle.std.proofs.Common.{◌≡◌, ◌+◌, take}
use Rattle.sqlite_trees.specs.View.{IsClean, IsQuiet, KeepsSchema}
use Rattle.edit_journal.proofs.ViewLemmas.{Puts}
use Rattle.edit_journal.proofs.writing.put_steps.Given as goal

-- the rows of the steps so far are written
abbrev pub invariant-loop-step : goal.invariant-loop-step
invariant-loop-step g l = record {
  count : l.after ≡ l.rows + l.step-index;
  puts : IsClean (g.S.Store.view l.store) → Puts (g.S.Store.view l.fn.store) (g.S.Store.view l.store) l.rows l.entry (take l.step-index l.steps);
  schema : KeepsSchema (g.S.Store.view l.fn.store) (g.S.Store.view l.store);
  quiet : IsQuiet g.S.Store.view g.S.Store.faults g.S.Store.recovers g.S.Store.is_shielded l.fn.store l.store;
}
