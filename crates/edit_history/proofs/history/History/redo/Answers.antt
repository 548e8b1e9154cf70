use Rattle.std.proofs.Common.{◌≡◌, ◌≢◌, ◌+◌, List, Some, length, refl, sym, subst}
use Rattle.std.specs.Prelude.{slice_get}
use Rattle.std.proofs.lemmas.Option.{slice_get_read}
use Rattle.stream_edits.specs.Edits.{Register}
use Rattle.edit_history.specs.declared.changes.UnitChange.{UnitChange}
use Rattle.edit_history.specs.declared.history.HistoryStep.{HistoryStep}
use Rattle.edit_history.specs.declared.refusals.NotUndone.TheVariants.{Unfit}
use Rattle.edit_history.specs.Changes.{ChangesAll}
use Rattle.edit_history.specs.Histories.{IsHistory}
use Rattle.edit_history.specs.Texts.{IsStream, Texts}
use Rattle.edit_history.proofs.Errors.{IfErr-more}
use Rattle.edit_history.proofs.history.History.redo.Goals as goal

pub returns-clause-fit : goal.returns-clause-fit
returns-clause-fit c =
    let history = c.args.self.now in
    let step = c.in-Some.step.now in
    let lookup = c.in-Some.ensures.lookup in
    let step_is : slice_get history.steps.items history.done ≡ Some step =
    subst (λ (steps : List HistoryStep). slice_get steps history.done ≡ Some step) c.deref.ensures.value
    (slice_get_read c.deref.result.now (length c.deref.result.now) history.done step refl lookup.3.0 lookup.1) in
    IfErr-more c.group_of.result
    (λ refused. (old : Register) (before after : Texts) → IsStream old before c.args.ids.now c.args.ids_given
    → ChangesAll before c.in_ok-changes.changes.items after → refused ≢ Unfit)
    (λ refused. (states : List Texts) (texts : Texts) (old : Register) → IsHistory history states texts
    → IsStream old texts c.args.ids.now c.args.ids_given → (after : Texts) → slice_get states (history.done + 1) ≡ Some after → refused ≢ Unfit)
    (λ refused never states texts old is stream after after_is.
    never old texts after stream
    (subst (λ (changes : List UnitChange). ChangesAll texts changes after) (sym c.in_ok-changes.ensures)
    (subst (λ (changes : List UnitChange). ChangesAll texts changes after) (sym c.deref-2.ensures.value)
    (is.fits.each history.done step texts after step_is is.now after_is))))
    c.group_of.ensures.fit
