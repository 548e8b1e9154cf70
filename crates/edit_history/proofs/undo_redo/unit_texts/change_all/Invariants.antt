use Rattle.std.proofs.Common.{drop}
use Rattle.edit_history.specs.Changes.{ChangesAll}
use Rattle.edit_history.specs.Texts.{Texts}
use Rattle.edit_history.proofs.undo_redo.unit_texts.change_all.Given as goal

-- the changes that are left lead to where all of them lead
abbrev pub invariant-loop-change : goal.invariant-loop-change
invariant-loop-change l = record {
  left : (to : Texts) → ChangesAll l.fn.texts.items l.changes to → ChangesAll l.texts.items (drop l.change-index l.changes) to;
}
