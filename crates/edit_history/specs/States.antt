-- What can be undone and redone, beside the texts that the stream had after each step.
use Rattle.std.specs.Prelude.{◌≡◌, ℕ, List}
use Rattle.edit_history.specs.Changes.{ChangesAll}
use Rattle.edit_history.specs.Histories.{IsHistory}
use Rattle.edit_history.specs.Texts.{Texts}
use Rattle.stream_edits.specs.declared.edits.Edit.{Edit}
use Rattle.stream_edits.specs.Edits.{Register}
use Rattle.stream_edits.specs.Groups.{MakesAll}
use Rattle.edit_history.specs.declared.undo_redo.prepared.OpenStep.{OpenStep}
use Rattle.edit_history.specs.declared.undo_redo.undo_redo.UndoRedo.{UndoRedo}
use Rattle.edit_history.specs.declared.undo_redo.unit_texts.UnitTexts.{UnitTexts}
use Rattle.edit_history.specs.KeptTexts.{AreSame, IsKept}

-- the stream's units have the texts that are kept, which are those after the steps that are done; the
-- states are the texts before the first step and after each
pub record IsUndoRedo (it : UndoRedo) (states : List Texts) (register : Register) : Type 0 where
  pub kept : IsKept it.units register
  pub history : IsHistory it.history states it.units.texts.items

-- a step is under way that began with these texts
pub record IsUnderWay (it : UndoRedo) (step : OpenStep) (states : List Texts) (before : Texts) (register : Register) : Type 0 where
  pub kept : IsKept it.units register
  pub history : IsHistory it.history states before
  pub changes : ChangesAll before step.changes.items it.units.texts.items

-- nothing is different but the room that there is
pub record IsAsBefore (old new : UndoRedo) : Type 0 where
  pub units : AreSame old.units new.units
  pub done : new.history.done ≡ old.history.done
  pub steps : new.history.steps.items ≡ old.history.steps.items

-- the edits are accepted of the stream and lead to these texts, which are kept then
pub record TakesTo (old : Register) (edits : List Edit) (to : Texts) (units : UnitTexts) : Type 0 where
  pub about : List ℕ
  pub new : Register
  pub makes : MakesAll old edits about new
  pub kept : IsKept units new
  pub texts_are : units.texts.items ≡ to
