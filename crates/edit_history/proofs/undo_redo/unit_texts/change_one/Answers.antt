use Rattle.edit_history.specs.declared.changes.UnitChange.{UnitChange}
use Rattle.edit_history.specs.Changes.{Changes}
use Rattle.std.proofs.Common.{subst}
use Rattle.edit_history.proofs.Rechanged.{after-replaced}
use Rattle.edit_history.proofs.undo_redo.unit_texts.change_one.Goals as goal

pub returns-in_ok-texts-in-Replaced : goal.returns-in_ok-texts-in-Replaced
returns-in_ok-texts-in-Replaced c = λ to changes.
    let old = c.args.texts.now.items in
    let arm = c.in-Replaced in
    rw c.in_ok-texts-in-Replaced.ensures.cases
    (after-replaced old arm.at arm.field-1 arm.text to (subst (λ (change : UnitChange). Changes old change to) arm.is changes))
