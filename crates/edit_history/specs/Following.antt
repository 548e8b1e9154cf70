-- Texts that follow the edits of a stream.
use Rattle.std.specs.Prelude.{ℕ, ◌+◌, ◌-◌, ◌≤◌, List, ◌++◌, length, take, drop, vec_len}
use Rattle.std.specs.Vec.{vec_capacity}
use Rattle.access_unit.specs.StreamUnits.{most_units}
use Rattle.edit_history.specs.declared.changes.UnitChange.{UnitChange}
use Rattle.edit_history.specs.Changes.{Changes, ChangesAll}
use Rattle.edit_history.specs.Texts.{Texts, IsStream}
use Rattle.stream_edits.specs.declared.edits.Edit.{Edit}
use Rattle.stream_edits.specs.Edits.{Register, Makes}
use Rattle.stream_edits.specs.Groups.{MakesAll}
use Rattle.edit_history.specs.declared.undo_redo.prepared.PreparedEdit.{PreparedEdit}
use Rattle.edit_history.specs.declared.undo_redo.prepared.PreparedGroup.{PreparedGroup}
use Rattle.edit_history.specs.declared.undo_redo.unit_texts.UnitTexts.{UnitTexts}
use Rattle.edit_history.specs.KeptTexts.{IsKept}

-- the ids after a prepared edit is taken in
abbrev pub ids_after : UnitTexts → PreparedEdit → List ℕ
ids_after units prepared = take prepared.at units.ids.items ++ prepared.ids.items ++ drop prepared.rest units.ids.items

-- the texts after a prepared edit is taken in
abbrev pub texts_after : UnitTexts → PreparedEdit → Texts
texts_after units prepared = take prepared.at units.texts.items ++ prepared.texts.items ++ drop prepared.rest units.texts.items

-- there is room for one unit more
pub record HasSpace (units : UnitTexts) : Type 0 where
  pub ids_fit : vec_len units.ids + 1 ≤ vec_capacity units.ids
  pub texts_fit : vec_len units.texts + 1 ≤ vec_capacity units.texts

-- what is prepared lies within the units, and there is room for it
pub record HasCapacity (units : UnitTexts) (prepared : PreparedEdit) : Type 0 where
  pub ordered : prepared.at ≤ prepared.rest
  pub in_ids : prepared.rest ≤ vec_len units.ids
  pub in_texts : prepared.rest ≤ vec_len units.texts
  pub ids_fit : vec_len units.ids + vec_len prepared.ids ≤ vec_capacity units.ids + (prepared.rest - prepared.at)
  pub texts_fit : vec_len units.texts + vec_len prepared.texts ≤ vec_capacity units.texts + (prepared.rest - prepared.at)

-- the texts and ids are those of the stream once what is prepared is taken in, which is what it says
-- that it changes
pub record LeadsTo (units : UnitTexts) (prepared : PreparedEdit) (new : Register) : Type 0 where
  pub is : IsStream new (texts_after units prepared) (ids_after units prepared) prepared.ids_given
  pub bounded : length (texts_after units prepared) ≤ most_units
  pub changes : Changes units.texts.items prepared.change (texts_after units prepared)

-- what is prepared makes of the texts what the edit makes of the stream, where it is accepted
abbrev pub Follows : UnitTexts → Edit → PreparedEdit → Type 0
Follows units edit prepared =
    (old : Register) (id : ℕ) (new : Register) → IsKept units old → Makes old edit id new → LeadsTo units prepared new

-- no stream of these texts and ids accepts the edit
abbrev pub IsRefusedOf : UnitTexts → Edit → Type 0
IsRefusedOf units edit = (old : Register) (id : ℕ) (new : Register) → IsKept units old → Makes old edit id new → ⊥

-- the changes lead from the texts to these units, which are those of the stream
pub record IsLed (texts : Texts) (made : List UnitChange) (new : Register) (units : UnitTexts) : Type 0 where
  pub kept : IsKept units new
  pub changes : ChangesAll texts made units.texts.items

-- what is prepared makes of the texts what the edits make of the stream, where they are accepted
abbrev pub FollowsAll : UnitTexts → List Edit → PreparedGroup → Type 0
FollowsAll units edits prepared =
    (old : Register) (ids : List ℕ) (new : Register) → IsKept units old → MakesAll old edits ids new
    → IsLed units.texts.items prepared.changes.items new prepared.units

-- no stream of these texts and ids accepts the edits
abbrev pub AreRefusedOf : UnitTexts → List Edit → Type 0
AreRefusedOf units edits = (old : Register) (ids : List ℕ) (new : Register) → IsKept units old → MakesAll old edits ids new → ⊥
