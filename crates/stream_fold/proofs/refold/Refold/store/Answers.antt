use Rattle.std.proofs.Common.{[], ◌∷◌, ◌++◌, refl, ap, ◌∙◌}
use Rattle.request_core.specs.States.{FoldState}
use Rattle.stream_fold.proofs.Going.{stored_goes_on}
use Rattle.stream_fold.proofs.refold.Refold.store.Goals as goal

pub returns-in_ok-push-clause-on : goal.returns-in_ok-push-clause-on
returns-in_ok-push-clause-on c =
    stored_goes_on c.args.self.now _ refl refl refl refl refl refl c.if-self-eq-SPACING.true refl
    (c.in_ok-push.ensures.items
    ∙ ap (λ (state : FoldState). c.args.self.now.states.items ++ (c.args.self.now.place, state) ∷ []) c.in_ok-copy.ensures)
