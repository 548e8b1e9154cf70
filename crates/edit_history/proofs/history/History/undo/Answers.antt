use Rattle.std.proofs.Common.{◌≡◌, ◌≢◌, ℕ, ◌+◌, List, Some, length, refl, sym, subst, arith}
use Rattle.std.specs.Prelude.{slice_get}
use Rattle.std.proofs.lemmas.Option.{slice_get_read}
use Rattle.stream_edits.specs.Edits.{Register}
use Rattle.edit_history.specs.declared.changes.UnitChange.{UnitChange}
use Rattle.edit_history.specs.declared.history.HistoryStep.{HistoryStep}
use Rattle.edit_history.specs.declared.refusals.NotUndone.TheVariants.{Unfit}
use Rattle.edit_history.specs.Changes.{ChangesAll}
use Rattle.edit_history.specs.Histories.{IsHistory}
use Rattle.edit_history.specs.Texts.{IsStream, Texts}
use Rattle.edit_history.proofs.Errors.{IfErr-more}
use Rattle.edit_history.proofs.history.History.undo.Goals as goal

pub returns-clause-fit : goal.returns-clause-fit
returns-clause-fit c =
    let history = c.args.self.now in
    let step = c.in-Some-get.step.now in
    let last = c.in-Some.last in
    let lookup = c.in-Some-get.ensures.lookup in
    let done_is : history.done ≡ last + 1 = grind (arith, c.in-Some.ensures) in
    let step_is : slice_get history.steps.items last ≡ Some step =
    subst (λ (steps : List HistoryStep). slice_get steps last ≡ Some step) c.deref.ensures.value
    (slice_get_read c.deref.result.now (length c.deref.result.now) last step refl lookup.3.0 lookup.1) in
    IfErr-more c.group_of.result
    (λ refused. (old : Register) (before after : Texts) → IsStream old before c.args.ids.now c.args.ids_given
    → ChangesAll before c.in_ok-inverse.inverse.items after → refused ≢ Unfit)
    (λ refused. (states : List Texts) (texts : Texts) (old : Register) → IsHistory history states texts
    → IsStream old texts c.args.ids.now c.args.ids_given → (at : ℕ) (before : Texts) → history.done ≡ at + 1 → slice_get states at ≡ Some before
    → refused ≢ Unfit)
    (λ refused never states texts old is stream at before done_at before_is.
    let at_is : at ≡ last = omega (arith, done_is, done_at) in
    let here : slice_get states last ≡ Some before = subst (λ (n : ℕ). slice_get states n ≡ Some before) at_is before_is in
    let now : slice_get states (last + 1) ≡ Some texts = subst (λ (n : ℕ). slice_get states n ≡ Some texts) done_is is.now in
    never old texts before stream
    (c.in_ok-inverse.ensures.back before texts
    (subst (λ (changes : List UnitChange). ChangesAll before changes texts) (sym c.deref-2.ensures.value)
    (is.fits.each last step before texts step_is here now))))
    c.group_of.ensures.fit
