-- Edits that no stream of some texts and ids accepts.
use Rattle.std.proofs.Common.{◌≡◌, ℕ, List, length, Option, Some, ap, ◌∙◌}
use Rattle.picture_keys.specs.Units.{AreDifferent}
use Rattle.stream_edits.specs.declared.edits.InsertionPoint.{InsertionPoint}
use Rattle.stream_edits.specs.Edits.{Register}
use Rattle.stream_edits.specs.Streams.{place_among, place_of, start_among, start_of}
use Rattle.edit_history.proofs.Led.{IsStream-differ, IsStream-length}
use Rattle.edit_history.specs.declared.undo_redo.unit_texts.UnitTexts.{UnitTexts}
use Rattle.edit_history.specs.KeptTexts.{IsKept}

-- no unit has the id
pub no-place : (units : UnitTexts) (old : Register) (id at : ℕ) (found : Option ℕ) → ((place : ℕ) → found ≡ Some place → ⊥)
    → (AreDifferent units.ids.items → found ≡ place_among units.ids.items id) → IsKept units old → place_of old.stream id ≡ Some at → ⊥
no-place units old id at found none value kept stands =
    none at
    (value (IsStream-differ old units.texts.items units.ids.items units.ids_given kept.is)
    ∙ (ap (λ (ids : List ℕ). place_among ids id) kept.is.ids_are ∙ stands))

-- nor that behind which a unit is inserted
pub no-start : (units : UnitTexts) (old : Register) (place : InsertionPoint) (at : ℕ) (found : Option ℕ) → ((start : ℕ) → found ≡ Some start → ⊥)
    → (AreDifferent units.ids.items → found ≡ start_among units.ids.items place) → IsKept units old → start_of old.stream place ≡ Some at → ⊥
no-start units old place at found none value kept stands =
    none at
    (value (IsStream-differ old units.texts.items units.ids.items units.ids_given kept.is)
    ∙ (ap (λ (ids : List ℕ). start_among ids place) kept.is.ids_are ∙ stands))

-- there are as many texts as ids
pub as_many : (units : UnitTexts) (old : Register) → IsKept units old → length units.ids.items ≡ length units.texts.items
as_many units old kept = IsStream-length old units.texts.items units.ids.items units.ids_given kept.is
