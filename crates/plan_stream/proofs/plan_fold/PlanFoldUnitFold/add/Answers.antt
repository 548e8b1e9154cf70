use Rattle.std.proofs.Common.{◌≡◌, ◌+◌, ◌∙◌, ◌++◌, ◌∷◌, [], ℕ, List, length, ap, arith}
use Rattle.unit_outcomes.specs.declared.outcome.Outcome.{Outcome}
use Rattle.request_core.specs.States.{FoldState}
use Rattle.unit_printing.specs.UnitLines.{outcome_tail}
use Rattle.plan_stream.specs.Shown.{shown_of}
use Rattle.plan_stream.proofs.FoldSteps.{count_is, outcomes_more, state_more, tails_more}
use Rattle.plan_stream.proofs.plan_fold.PlanFoldUnitFold.add.Goals as goal

pub returns : goal.returns
returns c = λ first done is.
    let old = c.args.self.now in
    let unit = c.args.unit.now in
    let id = c.new-id.result in
    let id_is : id ≡ 1 + length done = omega (arith, c.new-id.ensures, c.len.ensures, count_is done old is) in
    let pair = c.in_ok-state.ensures old.state unit c.in_ok-read.ensures in
    let tail = c.as_bytes.ensures.value ∙ c.in_ok-write_tail.ensures ∙ ap (λ (p : FoldState × Outcome). outcome_tail id p.1) pair in
    record {
      state_is = ap (λ (p : FoldState × Outcome). p.0) pair ∙ state_more done old is unit id id_is;
      outcomes_are =
          c.in_ok-push-2.ensures.items
          ∙ ap (λ (o : Outcome). old.outcomes.items ++ o ∷ []) (c.shown_in.ensures ∙ ap (λ (p : FoldState × Outcome). shown_of p.1) pair)
          ∙ outcomes_more done old is unit id id_is;
      tails_are =
          c.in_ok-push.ensures.ok ∙ ap (λ (t : List ℕ). old.tails ++ t ∷ []) tail ∙ tails_more done old is unit id id_is;
    }
