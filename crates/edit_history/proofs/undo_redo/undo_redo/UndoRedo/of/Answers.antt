use Rattle.std.proofs.Common.{[], ◌∷◌, sym, subst}
use Rattle.edit_history.specs.Histories.{IsHistory}
use Rattle.edit_history.specs.Texts.{Texts}
use Rattle.edit_history.specs.Snapshots.{texts_in}
use Rattle.edit_history.proofs.Snapshots.{kept-of}
use Rattle.edit_history.proofs.undo_redo.undo_redo.UndoRedo.of.Goals as goal

pub returns-clause-begins : goal.returns-clause-begins
returns-clause-begins c = λ register of.
    let snapshot = c.args.snapshot.now in
    record {
      kept = kept-of snapshot c.in_ok-of.field-0 register c.in_ok-of.ensures of;
      history =
          subst (λ (texts : Texts). IsHistory c.new.result (texts_in snapshot ∷ []) texts) (sym c.in_ok-of.ensures.texts_are)
          (c.new.ensures (texts_in snapshot));
    }

pub returns-clause-history : goal.returns-clause-history
returns-clause-history c = c.new.ensures (texts_in c.args.snapshot.now)
