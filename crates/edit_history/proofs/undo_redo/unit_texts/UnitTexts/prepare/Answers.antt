use Rattle.edit_history.proofs.undo_redo.unit_texts.UnitTexts.prepare.Goals as goal

pub returns-in-Delete-clause-none : goal.returns-in-Delete-clause-none
returns-in-Delete-clause-none c = rw c.in-Delete.is c.deletion.ensures.none

pub returns-in-Replace-clause-none : goal.returns-in-Replace-clause-none
returns-in-Replace-clause-none c = rw c.in-Replace.is c.replacement.ensures.none
