use Rattle.std.proofs.Common.{[], ◌∷◌, ◌++◌, refl, ap, ◌∙◌}
use Rattle.request_core.specs.States.{FoldState}
use Rattle.unit_outcomes.specs.declared.outcome.Outcome.{Outcome}
use Rattle.stream_fold.proofs.Going.{step_goes_on}
use Rattle.stream_fold.proofs.refold.Refold.make_step.Goals as goal

pub returns : goal.returns
returns c =
    step_goes_on c.args.self.now _ c.args.id c.args.unit.now refl refl refl refl refl
    (ap (λ (answer : FoldState × Outcome). answer.0) c.in_ok-state.ensures.value) c.in_ok-state.ensures.counted
    (c.in_ok-push.ensures.items
    ∙ ap (λ (outcome : Outcome). c.args.self.now.outcomes.items ++ outcome ∷ [])
    (c.in_ok-new.ensures.ok ∙ ap (λ (answer : FoldState × Outcome). answer.1) c.in_ok-state.ensures.value))
