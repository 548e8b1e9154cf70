use Rattle.std.proofs.Common.{◌≡◌, ◌∙◌, ℕ, List, ap, sym, subst}
use Rattle.request_core.specs.States.{FoldState}
use Rattle.request_core.specs.Fold.{fold_step}
use Rattle.unit_outcomes.specs.declared.outcome.Outcome.{Outcome}
use Rattle.picture_keys.specs.Digests.{IsDigestOf}
use Rattle.stream_fold.proofs.Digests.{step_digest}
use Rattle.stream_fold.proofs.refold.hashed_step.Goals as goal

-- the digest of the unit's slices is that of its outcome
pub new-requires : goal.new-requires
new-requires c =
    let same : c.in_ok-state.outcome ≡ (fold_step c.args.state.now c.args.id c.args.unit.now).1 =
    ap (λ (answer : FoldState × Outcome). answer.1) c.in_ok-state.ensures.value
    ∙ ap (λ (unit : List (List ℕ)). (fold_step c.args.state.now c.args.id unit).1) c.unit.ensures in
    subst (λ (outcome : Outcome). IsDigestOf outcome c.digest.result.bytes) (sym same)
    (step_digest c.args.state.now c.args.id c.args.unit.now c.digest.result.bytes c.digest.ensures)
