use Rattle.std.proofs.Common.{sym, subst}
use Rattle.edit_history.specs.Histories.{IsHistory}
use Rattle.edit_history.specs.Texts.{Texts}
use Rattle.edit_history.proofs.Stepped.{taken-kept}
use Rattle.edit_history.proofs.undo_redo.undo_redo.UndoRedo.undone.Goals as goal

pub returns-clause-follows : goal.returns-clause-follows
returns-clause-follows c = λ states old at before edits ids new is done_at before_is takes makes. record {
  kept = taken-kept old edits before c.args.units ids new takes makes;
  history =
      subst (λ (texts : Texts). IsHistory c.undone.new.self states texts) (sym takes.texts_are)
      (c.undone.ensures.fits states c.args.self.now.units.texts.items at before is.history done_at before_is);
}
