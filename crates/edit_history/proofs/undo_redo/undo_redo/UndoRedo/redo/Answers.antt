use Rattle.std.proofs.Common.{ℕ, List, sym, subst}
use Rattle.edit_history.specs.Texts.{IsStream}
use Rattle.edit_history.proofs.UndoRedoLed.{bounded-changed}
use Rattle.edit_history.proofs.Stepped.{takes-group}
use Rattle.edit_history.proofs.undo_redo.undo_redo.UndoRedo.redo.Goals as goal

pub returns-clause-ok : goal.returns-clause-ok
returns-clause-ok c = λ states old is to to_is.
    let units = c.args.self.now.units in
    let group = c.in_ok-group.group in
    let after = c.in_ok-after.field-0 in
    let takes =
    c.in_ok-group.ensures.ok states units.texts.items old is.history
    (subst (λ (ids : List ℕ). IsStream old units.texts.items ids units.ids_given) (sym c.deref.ensures.value) is.kept.is) to to_is in
    takes-group old units.texts.items to group after.0.items after.1
    (bounded-changed units.texts.items group.changes.items to takes.changes is.kept.bounded) takes c.in_ok-after.ensures.edits
    (c.in_ok-after.ensures.texts to takes.changes) c.in_ok-after.ensures.ids c.in_ok-after.ensures.given
