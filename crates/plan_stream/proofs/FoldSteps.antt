-- The fold over the units of a stream, unit after unit.
use Rattle.std.proofs.Common.{◌≡◌, ◌∙◌, ℕ, ◌+◌, List, [], ◌∷◌, ◌++◌, length, map, refl, ap, sym, arith, suc}
use Rattle.std.proofs.lemmas.List.{map-append}
use Rattle.unit_outcomes.specs.declared.outcome.Outcome.{Outcome}
use Rattle.request_core.specs.States.{FoldState, no_units}
use Rattle.request_core.specs.Fold.{fold_step, outcomes_of}
use Rattle.request_core.specs.Agreement.{state_from}
use Rattle.request_core.proofs.Agreement.{outcomes_from-append, state_from-append}
use Rattle.unit_printing.specs.UnitLines.{outcome_tail}
use Rattle.plan_stream.specs.declared.plan_fold.PlanFold.{PlanFold}
use Rattle.plan_stream.specs.Shown.{shown_of}
use Rattle.plan_stream.specs.Folds.{IsFoldOf, tails_from}
use Rattle.plan_stream.specs.Streams.{numbered_from}
use Rattle.plan_stream.proofs.Streams.{length-numbered_from, numbered_from-push}
use Rattle.plan_stream.proofs.UnitTexts.{length-outcomes_of}

pub length-tails_from : (id : ℕ) (outcomes : List Outcome) → length (tails_from id outcomes) ≡ length outcomes
length-tails_from id [] = refl
length-tails_from id (outcome ∷ outcomes) = ap (λ n. suc n) (length-tails_from (id + 1) outcomes)

-- one more has the next id
tails_from-push : (id : ℕ) (outcomes : List Outcome) (outcome : Outcome)
    → tails_from id (outcomes ++ outcome ∷ []) ≡ tails_from id outcomes ++ outcome_tail (id + length outcomes) outcome ∷ []
tails_from-push id [] outcome = ap (λ (n : ℕ). outcome_tail n outcome ∷ []) (omega arith)
tails_from-push id (first ∷ outcomes) outcome =
    let rest = tails_from-push (id + 1) outcomes outcome in
    let next : (id + 1) + length outcomes ≡ id + length (first ∷ outcomes) = omega arith in
    ap (λ l. outcome_tail id first ∷ l) (rw next at rest)

module _ (done : List (List (List ℕ))) (fold : PlanFold) (is : IsFoldOf done fold) where
  abbrev stream : List (ℕ × List (List ℕ))
  stream = numbered_from 1 done

  -- a unit is kept for each
  pub count_is : length fold.tails ≡ length done
  count_is =
      ap length is.tails_are ∙ length-tails_from 1 (outcomes_of stream)
      ∙ length-outcomes_of stream ∙ length-numbered_from 1 done

  module _ (unit : List (List ℕ)) (id : ℕ) (id_is : id ≡ 1 + length done) where
    abbrev after : FoldState × Outcome
    after = fold_step fold.state id unit

    stream_more : numbered_from 1 (done ++ unit ∷ []) ≡ stream ++ (id, unit) ∷ []
    stream_more = numbered_from-push 1 done unit ∙ ap (λ (n : ℕ). stream ++ (n, unit) ∷ []) (sym id_is)

    outcomes_next : outcomes_of (numbered_from 1 (done ++ unit ∷ [])) ≡ outcomes_of stream ++ (fold_step fold.state id unit).1 ∷ []
    outcomes_next =
        ap outcomes_of stream_more ∙ outcomes_from-append no_units stream ((id, unit) ∷ [])
        ∙ ap (λ state. outcomes_of stream ++ (fold_step state id unit).1 ∷ []) (sym is.state_is)

    -- the fold goes on by one step
    pub state_more : (fold_step fold.state id unit).0 ≡ state_from no_units (numbered_from 1 (done ++ unit ∷ []))
    state_more =
        ap (λ state. (fold_step state id unit).0) is.state_is ∙ sym (state_from-append no_units stream ((id, unit) ∷ []))
        ∙ ap (state_from no_units) (sym stream_more)

    pub outcomes_more : fold.outcomes.items ++ shown_of (fold_step fold.state id unit).1 ∷ []
        ≡ map shown_of (outcomes_of (numbered_from 1 (done ++ unit ∷ [])))
    outcomes_more =
        ap (λ l. l ++ shown_of after.1 ∷ []) is.outcomes_are ∙ sym (map-append shown_of (outcomes_of stream) (after.1 ∷ []))
        ∙ ap (map shown_of) (sym outcomes_next)

    pub tails_more : fold.tails ++ outcome_tail id (fold_step fold.state id unit).1 ∷ []
        ≡ tails_from 1 (outcomes_of (numbered_from 1 (done ++ unit ∷ [])))
    tails_more =
        let place : 1 + length (outcomes_of stream) ≡ id = omega (arith, length-outcomes_of stream, length-numbered_from 1 done, id_is) in
        let push = tails_from-push 1 (outcomes_of stream) after.1 in
        ap (λ l. l ++ outcome_tail id after.1 ∷ []) is.tails_are ∙ sym (rw place at push) ∙ ap (tails_from 1) (sym outcomes_next)
