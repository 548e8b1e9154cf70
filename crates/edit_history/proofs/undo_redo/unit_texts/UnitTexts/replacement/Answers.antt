use Rattle.std.proofs.Common.{◌≡◌, ◌≤◌, ◌<◌, List, [], ◌∷◌, ◌∙◌, ℕ, Some, length, ap, refl, sym, subst, arith}
use Rattle.std.specs.Prelude.{slice_get}
use Rattle.std.proofs.lemmas.Option.{get_or_from_slice_get, slice_get_read}
use Rattle.edit_history.specs.declared.changes.UnitChange.TheVariants.{Replaced}
use Rattle.picture_keys.specs.Units.{AreDifferent}
use Rattle.stream_edits.specs.Streams.{place_among}
use Rattle.edit_history.proofs.Followed.{follows-replaced}
use Rattle.edit_history.proofs.Refused.{as_many, no-place}
use Rattle.edit_history.proofs.undo_redo.unit_texts.UnitTexts.replacement.Goals as goal

pub returns-in_default-clause-none : goal.returns-in_default-clause-none
returns-in_default-clause-none c = λ _ old about new kept makes.
    no-place c.args.self.now old c.args.id makes.1.at c.place_of.result c.in_default.not-Some
    (subst (λ (ids : List ℕ). AreDifferent ids → c.place_of.result ≡ place_among ids c.args.id) c.deref.ensures.value c.place_of.ensures.value) kept
    makes.1.stands

pub returns-in_default-get-clause-none : goal.returns-in_default-get-clause-none
returns-in_default-get-clause-none c = λ _ old about new kept makes.
    let past : length c.deref-2.result.now ≤ c.in-Some.at = grind (arith, c.in_default-get.ensures.lookup.0) in
    omega (arith, past, ap length c.deref-2.ensures.value, ap length c.deref.ensures.value, c.in-Some.ensures.inside, as_many c.args.self.now old kept)

pub returns-clause-follows : goal.returns-clause-follows
returns-clause-follows c =
    let units = c.args.self.now in
    let at = c.in-Some.at in
    let former = c.in-Some-get.former.now in
    let lookup = c.in-Some-get.ensures.lookup in
    let former_is : slice_get units.texts.items at ≡ Some former =
    subst (λ (texts : List (List ℕ)). slice_get texts at ≡ Some former) c.deref-2.ensures.value
    (slice_get_read c.deref-2.result.now (length c.deref-2.result.now) at former refl lookup.3.0 lookup.1) in
    let within : at < length units.texts.items = omega (arith, lookup.3.0, ap length c.deref-2.ensures.value) in
    follows-replaced units _ c.args.id former c.args.text.now
    (subst (λ (ids : List ℕ). AreDifferent ids → Some at ≡ place_among ids c.args.id) c.deref.ensures.value c.in-Some.ensures.value) within
    (sym (get_or_from_slice_get units.texts.items at former former former_is)) refl c.in_ok-vec.ensures.items
    (c.in_ok-vec-2.ensures.items ∙ ap (λ (text : List ℕ). text ∷ []) c.in_ok-clone.ensures.cases) refl
    (ap (λ (text : List ℕ). Replaced at text c.in_ok-clone-3.field-0) c.in_ok-clone-2.ensures.cases
    ∙ ap (λ (text : List ℕ). Replaced at former text) c.in_ok-clone-3.ensures.cases)
