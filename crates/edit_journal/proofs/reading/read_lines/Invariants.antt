use Rattle.std.proofs.Common.{◌≡◌, ◌+◌, length, IsSome}
use Rattle.sqlite_trees.specs.View.{IsClean, IsQuiet}
use Rattle.edit_journal.specs.Journals.{edit_cursor}
use Rattle.edit_journal.proofs.ViewLemmas.{Reads}
use Rattle.edit_journal.proofs.reading.read_lines.Given as goal

-- the lines so far are read, and the cursor is behind them
abbrev pub invariant-loop-number : goal.invariant-loop-number
invariant-loop-number g l = record {
  live : IsSome ((g.S.Store.view l.store).cursors edit_cursor);
  count : l.number ≡ 1 + length l.lines.items;
  reads : IsClean (g.S.Store.view l.store) → Reads (g.S.Store.view l.fn.store) (g.S.Store.view l.store) l.lines.items;
  quiet : IsQuiet g.S.Store.view g.S.Store.faults g.S.Store.recovers g.S.Store.is_shielded l.fn.store l.store;
}
