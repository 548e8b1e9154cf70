use Rattle.std.proofs.Common.{ℕ, List}
use Rattle.stream_edits.specs.Edits.{Register}
use Rattle.stream_edits.specs.Groups.{MakesAll}
use Rattle.edit_history.specs.KeptTexts.{IsKept}
use Rattle.edit_history.proofs.UndoRedoLed.{IsPartlyLed}
use Rattle.edit_history.proofs.undo_redo.unit_texts.UnitTexts.make_all.Given as goal

-- the edits so far are followed
abbrev pub invariant-loop-edit : goal.invariant-loop-edit
invariant-loop-edit l = record {
  so_far : (old : Register) (ids : List ℕ) (new : Register) → IsKept l.fn.self old → MakesAll old l.edits ids new
      → IsPartlyLed l.fn.self.texts.items l.changes.items l.edits l.edit-index new l.self;
}
