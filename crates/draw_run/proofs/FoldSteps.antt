-- The fold over the units of a stream, unit after unit.
use Rattle.std.proofs.Common.{◌≡◌, ◌∙◌, ℕ, ◌+◌, List, [], ◌∷◌, ◌++◌, length, map, ap, sym, arith}
use Rattle.std.proofs.lemmas.List.{map-append, length-map}
use Rattle.unit_outcomes.specs.declared.outcome.Outcome.{Outcome}
use Rattle.request_core.specs.States.{FoldState, no_units}
use Rattle.request_core.specs.Fold.{fold_step, outcomes_of}
use Rattle.request_core.specs.Agreement.{state_from}
use Rattle.request_core.proofs.Agreement.{outcomes_from-append, state_from-append}
use Rattle.plan_stream.specs.Shown.{shown_of}
use Rattle.plan_stream.specs.Streams.{numbered_from}
use Rattle.plan_stream.proofs.Streams.{length-numbered_from, numbered_from-push}
use Rattle.plan_stream.proofs.UnitTexts.{length-outcomes_of}
use Rattle.draw_run.specs.Chosen.{kept_from}
use Rattle.draw_run.specs.declared.drawn_fold.DrawnFold.{DrawnFold}
use Rattle.draw_run.specs.declared.drawn_fold.KeptUnit.{KeptUnit}
use Rattle.draw_run.specs.Folds.{IsFoldOf}
use Rattle.stream_session.specs.Doubting.{seen_in, seen_with}
use Rattle.draw_run.proofs.Chosen.{kept_from-push, length-kept_from}
use Rattle.draw_run.proofs.Seen.{seen-push, seen_of}

module _ (first : DrawnFold) (done : List (List (List ℕ))) (fold : DrawnFold) (is : IsFoldOf first done fold) where
  abbrev stream : List (ℕ × List (List ℕ))
  stream = numbered_from 1 done

  -- an outcome is kept for each
  pub count_is : length fold.outcomes.items ≡ length done
  count_is =
      ap length is.outcomes_are ∙ length-map (outcomes_of stream) shown_of
      ∙ length-outcomes_of stream ∙ length-numbered_from 1 done

  module _ (unit : List (List ℕ)) (id : ℕ) (id_is : id ≡ 1 + length done) where
    abbrev after : FoldState × Outcome
    after = fold_step fold.state id unit

    stream_more : numbered_from 1 (done ++ unit ∷ []) ≡ stream ++ (id, unit) ∷ []
    stream_more = numbered_from-push 1 done unit ∙ ap (λ (n : ℕ). stream ++ (n, unit) ∷ []) (sym id_is)

    outcomes_next : outcomes_of (numbered_from 1 (done ++ unit ∷ [])) ≡ outcomes_of stream ++ (fold_step fold.state id unit).1 ∷ []
    outcomes_next =
        ap outcomes_of stream_more ∙ outcomes_from-append no_units stream ((id, unit) ∷ [])
        ∙ ap (λ state. outcomes_of stream ++ (fold_step state id unit).1 ∷ []) (sym is.state_is)

    -- the fold goes on by one step
    pub state_more : (fold_step fold.state id unit).0 ≡ state_from no_units (numbered_from 1 (done ++ unit ∷ []))
    state_more =
        ap (λ state. (fold_step state id unit).0) is.state_is ∙ sym (state_from-append no_units stream ((id, unit) ∷ []))
        ∙ ap (state_from no_units) (sym stream_more)

    pub outcomes_more : fold.outcomes.items ++ shown_of (fold_step fold.state id unit).1 ∷ []
        ≡ map shown_of (outcomes_of (numbered_from 1 (done ++ unit ∷ [])))
    outcomes_more =
        ap (λ l. l ++ shown_of after.1 ∷ []) is.outcomes_are ∙ sym (map-append shown_of (outcomes_of stream) (after.1 ∷ []))
        ∙ ap (map shown_of) (sym outcomes_next)

    -- the units with their outcomes go on by this one
    abbrev pub kept_so_far : List KeptUnit
    kept_so_far = kept_from 1 (outcomes_of stream)

    pub next_id : id ≡ length kept_so_far + 1
    next_id = omega (arith, id_is, length-kept_from 1 (outcomes_of stream), length-outcomes_of stream, length-numbered_from 1 done)

    pub kept_more : kept_so_far ++ record { id = id; outcome = (fold_step fold.state id unit).1 } ∷ []
        ≡ kept_from 1 (outcomes_of (numbered_from 1 (done ++ unit ∷ [])))
    kept_more =
        let place : 1 + length (outcomes_of stream) ≡ id = omega (arith, length-outcomes_of stream, length-numbered_from 1 done, id_is) in
        ap (λ (n : ℕ). kept_so_far ++ record { id = n; outcome = after.1 } ∷ []) (sym place)
        ∙ sym (kept_from-push 1 (outcomes_of stream) after.1) ∙ ap (kept_from 1) (sym outcomes_next)

    -- and so do the units as doubts see them
    pub seen_more : seen_in (numbered_from 1 done) ++ seen_of id unit (fold_step fold.state id unit).1 ∷ []
        ≡ seen_in (numbered_from 1 (done ++ unit ∷ []))
    seen_more =
        let long : length stream ≡ length (outcomes_of stream) = sym (length-outcomes_of stream) in
        sym (seen-push stream (outcomes_of stream) id unit after.1 long)
        ∙ ap (seen_with (stream ++ (id, unit) ∷ [])) (sym outcomes_next)
        ∙ ap (λ (s : List (ℕ × List (List ℕ))). seen_with s (outcomes_of (numbered_from 1 (done ++ unit ∷ [])))) (sym stream_more)
