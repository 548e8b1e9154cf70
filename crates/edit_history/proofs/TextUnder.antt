-- The text of the unit of an id.
use Rattle.std.proofs.Common.{◌≡◌, ℕ, zero, suc, ◌<◌, List, [], ◌∷◌, length, Option, None, Some, ap, refl, sym, ◌∙◌, subst, arith}
use Rattle.std.specs.Prelude.{option_and_then, slice_get}
use Rattle.std.proofs.lemmas.List.{get_or-map, length-map}
use Rattle.std.proofs.lemmas.Option.{get_or_from_slice_get}
use Rattle.access_unit.specs.Answers.{IsAccepted}
use Rattle.edit_history.specs.Texts.{Texts, Carries}
use Rattle.stream_edits.specs.Edits.{Register}
use Rattle.stream_edits.specs.Streams.{Stream, ids_of, place_among, place_of}
use Rattle.edit_history.specs.declared.undo_redo.unit_texts.UnitTexts.{UnitTexts}
use Rattle.edit_history.specs.KeptTexts.{IsKept}
use Rattle.edit_history.specs.Snapshots.{IsTextOf, text_under}
use Rattle.edit_history.proofs.Followed.{id-at}

-- the unit at a place, and the text that it is read from
record IsAt (stream : Stream) (texts : Texts) (at : ℕ) : Type 0 where
  unit : ℕ × List (List ℕ)
  text : List ℕ
  unit_is : slice_get stream at ≡ Some unit
  text_is : slice_get texts at ≡ Some text
  accepted : IsAccepted text unit.1

at : (stream : Stream) (texts : Texts) (at : ℕ) → Carries stream texts → at < length stream → IsAt stream texts at
at [] texts place is within = absurd (omega (arith, within))
at (unit ∷ stream) [] place is within = absurd is
at (unit ∷ stream) (text ∷ texts) zero is within = record { unit = unit; text = text; unit_is = refl; text_is = refl; accepted = is.0 }
at (unit ∷ stream) (text ∷ texts) (suc place) is within =
    let there = at stream texts place is.1 (omega (arith, within)) in
    record {
      unit = there.unit;
      text = there.text;
      unit_is = there.unit_is;
      text_is = there.text_is;
      accepted = there.accepted;
    }

-- the text at the place of the id is that of its unit
placed : (register : Register) (texts : Texts) (id place : ℕ) → Carries register.stream texts → place_of register.stream id ≡ Some place
    → IsTextOf register id (slice_get texts place)
placed register texts id place is stands =
    let number : ℕ × List (List ℕ) → ℕ = λ unit. unit.0 in
    let found = id-at (ids_of register.stream) id place (sym stands) in
    let within : place < length register.stream = omega (arith, found.0, length-map register.stream number) in
    let there = at register.stream texts place is within in
    let same : there.unit.0 ≡ id =
    sym (found.1 ∙ (get_or-map number register.stream place (id, []) id within
    ∙ ap number (get_or_from_slice_get register.stream place there.unit (id, []) there.unit_is))) in
    subst (λ (text : Option (List ℕ)). IsTextOf register id text) (sym there.text_is)
    (record {
      at = place;
      unit = there.unit.1;
      stands = stands;
      is_there = there.unit_is ∙ ap (λ (n : ℕ). Some (n, there.unit.1)) same;
      accepted = there.accepted;
    })

-- the text that is kept under an id is that of the unit of the id
pub text-of : (units : UnitTexts) (register : Register) (id : ℕ) → IsKept units register → IsTextOf register id (text_under units id)
text-of units register id kept =
    subst (λ (ids : List ℕ). IsTextOf register id (option_and_then (slice_get units.texts.items) (place_among ids id))) (sym kept.is.ids_are)
    (go (place_of register.stream id) refl)
  where
    go : (found : Option ℕ) → place_of register.stream id ≡ found
        → IsTextOf register id (option_and_then (slice_get units.texts.items) found)
    go None none = none
    go (Some place) stands = placed register units.texts.items id place kept.is.carries stands
