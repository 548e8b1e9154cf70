-- Snapshots and texts of a stream's units.
use Rattle.std.specs.Prelude.{◌≡◌, ℕ, List, Option, None, Some, map, option_and_then, slice_get}
use Rattle.access_unit.specs.Answers.{IsAccepted}
use Rattle.edit_history.specs.Texts.{Texts}
use Rattle.stream_edits.specs.Edits.{Register}
use Rattle.stream_edits.specs.Streams.{place_among, place_of}
use Rattle.stream_edits.specs.Snapshots.{SnapshotValue}
use Rattle.edit_history.specs.declared.undo_redo.unit_texts.UnitTexts.{UnitTexts}

-- the ids of a snapshot's units
abbrev pub ids_in : SnapshotValue → List ℕ
ids_in snapshot = map (λ unit. unit.0) snapshot.units

-- the texts of a snapshot's units
abbrev pub texts_in : SnapshotValue → Texts
texts_in snapshot = map (λ unit. unit.1) snapshot.units

-- the ids and texts are the snapshot's, and as many ids were given
pub record AreOf (snapshot : SnapshotValue) (units : UnitTexts) : Type 0 where
  pub ids_are : units.ids.items ≡ ids_in snapshot
  pub texts_are : units.texts.items ≡ texts_in snapshot
  pub given_is : units.ids_given ≡ snapshot.ids_given

-- the text at the place of the id, or nothing where the id has no place
abbrev pub text_under : UnitTexts → ℕ → Option (List ℕ)
text_under units id = option_and_then (slice_get units.texts.items) (place_among units.ids.items id)

-- the unit of the id stands in the stream, and is what the text is read as
pub record IsTextUnder (register : Register) (id : ℕ) (text : List ℕ) : Type 0 where
  pub at : ℕ
  pub unit : List (List ℕ)
  pub stands : place_of register.stream id ≡ Some at
  pub is_there : slice_get register.stream at ≡ Some (id, unit)
  pub accepted : IsAccepted text unit

-- the text of the unit of the id, or nothing where no unit has it
abbrev pub IsTextOf : Register → ℕ → Option (List ℕ) → Type 0
IsTextOf register id (Some text) = IsTextUnder register id text
IsTextOf register id None = place_of register.stream id ≡ None
