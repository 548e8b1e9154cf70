use Rattle.edit_history.proofs.undo_redo.undo_redo.UndoRedo.forget.Goals as goal

pub returns : goal.returns
returns c = λ states register is. record {
  kept = is.kept;
  history = c.new.ensures c.args.self.now.units.texts.items;
}
