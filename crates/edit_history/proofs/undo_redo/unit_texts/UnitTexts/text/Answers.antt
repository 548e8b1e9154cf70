use Rattle.std.proofs.Common.{◌≡◌, ◌∙◌, ◌≤◌, ◌<◌, List, ℕ, Option, None, Some, Bor, length, get_or, ap, refl, sym, subst}
use Rattle.std.specs.Prelude.{HoldsAt, IfSome, MatchOption, option_and_then, option_copied, slice_get}
use Rattle.std.proofs.lemmas.Option.{slice_get_past, slice_get_read}
use Rattle.picture_keys.specs.Units.{AreDifferent}
use Rattle.edit_history.specs.Texts.{Texts}
use Rattle.stream_edits.specs.Streams.{place_among}
use Rattle.edit_history.proofs.undo_redo.unit_texts.UnitTexts.text.Goals as goal

-- the text that is found at a place
found_at : (texts : Texts) (place : ℕ) (found : Option (Bor (List ℕ))) → IfSome found (λ text. text.now ≡ get_or texts place text.now)
    → MatchOption found (length texts ≤ place) (λ text. (place < length texts) × HoldsAt (λ other. text.now ≡ other) texts place)
    → option_copied found ≡ slice_get texts place
found_at texts place None read there = sym (slice_get_past texts place there)
found_at texts place (Some text) read there = sym (slice_get_read texts (length texts) place text.now refl there.0 read)

pub returns-in_err-at : goal.returns-in_err-at
returns-in_err-at c = λ different.
    let units = c.args.self.now in
    let none =
    subst (λ (ids : List ℕ). AreDifferent ids → None ≡ place_among ids c.args.id) c.deref.ensures.value c.in_err-at.ensures.value different in
    ap option_copied c.from_residual.ensures ∙ ap (option_and_then (slice_get units.texts.items)) none

pub returns : goal.returns
returns c = λ different.
    let units = c.args.self.now in
    let at = c.in_ok-at.at in
    let place =
    subst (λ (ids : List ℕ). AreDifferent ids → Some at ≡ place_among ids c.args.id) c.deref.ensures.value c.in_ok-at.ensures.value different in
    found_at c.deref-2.result.now at c.get.result c.get.ensures.lookup.1 c.get.ensures.lookup.3
    ∙ (ap (λ (texts : Texts). slice_get texts at) c.deref-2.ensures.value ∙ ap (option_and_then (slice_get units.texts.items)) place)
