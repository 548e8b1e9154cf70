use Rattle.std.proofs.Common.{◌≡◌, ◌+◌, List, [], ◌∷◌, ◌∙◌, ℕ, Some, length, ap, refl, subst, arith}
use Rattle.edit_history.specs.declared.changes.UnitChange.TheVariants.{Inserted}
use Rattle.picture_keys.specs.Units.{AreDifferent}
use Rattle.stream_edits.specs.Streams.{start_among}
use Rattle.edit_history.proofs.Followed.{follows-inserted}
use Rattle.edit_history.proofs.Refused.{as_many, no-start}
use Rattle.edit_history.proofs.undo_redo.unit_texts.UnitTexts.insertion.Goals as goal

pub returns-in_default-clause-none : goal.returns-in_default-clause-none
returns-in_default-clause-none c = λ _ old about new kept makes.
    no-start c.args.self.now old c.args.place makes.at c.start_of.result c.in_default.not-Some
    (subst (λ (ids : List ℕ). AreDifferent ids → c.start_of.result ≡ start_among ids c.args.place) c.deref.ensures.value c.start_of.ensures.value) kept
    makes.stands

pub returns-then-at-len-clause-none : goal.returns-then-at-len-clause-none
returns-then-at-len-clause-none c = λ _ old about new kept makes.
    omega (arith, c.if-at-len.true, c.len.ensures, c.in-Some.ensures.inside, ap length c.deref.ensures.value, as_many c.args.self.now old kept)

pub returns-clause-follows : goal.returns-clause-follows
returns-clause-follows c =
    let units = c.args.self.now in
    let at = c.in-Some.at in
    let number_is : c.in-Some-checked_add.number ≡ units.ids_given + 1 = grind (arith, c.in-Some-checked_add.ensures) in
    follows-inserted units _ c.args.place c.args.text.now
    (subst (λ (ids : List ℕ). AreDifferent ids → Some at ≡ start_among ids c.args.place) c.deref.ensures.value c.in-Some.ensures.value)
    (omega (arith, c.if-at-len.false, c.len.ensures)) refl
    (c.in_ok-vec.ensures.items ∙ ap (λ (n : ℕ). n ∷ []) (c.new.ensures ∙ number_is))
    (c.in_ok-vec-2.ensures.items ∙ ap (λ (text : List ℕ). text ∷ []) c.in_ok-clone.ensures.cases) number_is
    (ap (λ (text : List ℕ). Inserted at text) c.in_ok-clone-2.ensures.cases)
