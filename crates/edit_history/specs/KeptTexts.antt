-- The texts of a stream's units, as they are kept beside it.
use Rattle.std.specs.Prelude.{◌≡◌, ◌≤◌, length}
use Rattle.access_unit.specs.StreamUnits.{most_units}
use Rattle.edit_history.specs.Texts.{IsStream}
use Rattle.stream_edits.specs.Edits.{Register}
use Rattle.edit_history.specs.declared.undo_redo.unit_texts.UnitTexts.{UnitTexts}

-- the same texts under the same ids, and as many ids given
pub record AreSame (one other : UnitTexts) : Type 0 where
  pub ids : other.ids.items ≡ one.ids.items
  pub texts : other.texts.items ≡ one.texts.items
  pub given : other.ids_given ≡ one.ids_given

-- the stream's units have these texts and ids, so many ids were given, and the units are as many as
-- a stream may have
pub record IsKept (units : UnitTexts) (register : Register) : Type 0 where
  pub is : IsStream register units.texts.items units.ids.items units.ids_given
  pub bounded : length units.texts.items ≤ most_units
