use Rattle.std.proofs.Common.{[], ◌∷◌, sym, subst}
use Rattle.edit_history.specs.Histories.{IsHistory}
use Rattle.edit_history.specs.Texts.{Texts}
use Rattle.edit_history.proofs.UndoRedoLed.{kept-none}
use Rattle.edit_history.proofs.undo_redo.undo_redo.UndoRedo.new.Goals as goal

pub returns : goal.returns
returns c = record {
  kept = kept-none c.none.result c.none.ensures.ids c.none.ensures.texts c.none.ensures.given;
  history = subst (λ (texts : Texts). IsHistory c.new.result ([] ∷ []) texts) (sym c.none.ensures.texts) (c.new.ensures []);
}
