use Rattle.std.proofs.Common.{List, Option, ℕ, sym, subst}
use Rattle.edit_history.proofs.Led.{IsStream-differ}
use Rattle.edit_history.specs.Snapshots.{IsTextOf}
use Rattle.edit_history.proofs.TextUnder.{text-of}
use Rattle.edit_history.proofs.undo_redo.undo_redo.UndoRedo.text.Goals as goal

pub returns-clause-is_of : goal.returns-clause-is_of
returns-clause-is_of c = λ register kept.
    let units = c.args.self.now.units in
    let different = IsStream-differ register units.texts.items units.ids.items units.ids_given kept.is in
    subst (λ (text : Option (List ℕ)). IsTextOf register c.args.id text) (sym (c.text.ensures different)) (text-of units register c.args.id kept)
