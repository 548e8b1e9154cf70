use Rattle.std.proofs.Common.{sym, subst}
use Rattle.edit_history.specs.Histories.{IsHistory}
use Rattle.edit_history.specs.Texts.{Texts}
use Rattle.edit_history.proofs.Stepped.{taken-kept}
use Rattle.edit_history.proofs.undo_redo.undo_redo.UndoRedo.redone.Goals as goal

pub returns-clause-follows : goal.returns-clause-follows
returns-clause-follows c = λ states old after edits ids new is after_is takes makes. record {
  kept = taken-kept old edits after c.args.units ids new takes makes;
  history =
      subst (λ (texts : Texts). IsHistory c.redone.new.self states texts) (sym takes.texts_are)
      (c.redone.ensures.fits states c.args.self.now.units.texts.items after is.history after_is);
}
