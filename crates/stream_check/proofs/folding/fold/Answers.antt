use Rattle.std.proofs.Common.{◌≡◌, ◌∙◌, ◌+◌, ◌<◌, ◌++◌, ap, ap₂, sym, length, arith}
use Rattle.access_unit.specs.Sets.{sets_of}
use Rattle.unit_outcomes.specs.declared.outcome.Outcome.{Outcome}
use Rattle.slice_reading.specs.ParameterSets.{put_all}
use Rattle.request_core.specs.Fold.{fold_step}
use Rattle.request_core.specs.States.{FoldState}
use Rattle.stream_check.specs.Problems.{last_after, problem_at, reason_in}
use Rattle.stream_check.proofs.FoldSteps.{fold-next, problems-next}
use Rattle.stream_check.proofs.NextStates.{step_last, step_tables}
use Rattle.stream_check.proofs.folding.fold.Goals as goal

pub loop-place-preserved : goal.loop-place-preserved
loop-place-preserved c =
    let units = c.args.units.now in
    let place = c.loop-place.place in
    let state = c.loop-place.state in
    let after = c.in_ok-after.after in
    let outcome = c.in_ok-after.outcome in
    let unit = c.index-units-place.result in
    let id = c.new-id.result in
    let so_far = c.loop-place.invariant in
    let added = c.in_ok-add.ensures in
    let made = c.new-id.ensures in
    let id_is : id ≡ place + 1 = omega (arith, made) in
    let here : place < length units = c.loop-place-test.true in
    let pair = c.in_ok-after.ensures.value in
    let after_is : after ≡ (fold_step state id unit).0 = ap (λ (p : FoldState × Outcome). p.0) pair in
    let outcome_is : outcome ≡ (fold_step state id unit).1 = ap (λ (p : FoldState × Outcome). p.1) pair in
    let tables_are : c.add.new.self.tables ≡ put_all state.tables (sets_of unit) =
    added.tables ∙ ap (λ tables. put_all tables (sets_of unit)) so_far.tables in
    record {
      so_far = fold-next _ c.loop-place.outcomes.items c.push.new.self.items state after outcome units place id unit unit so_far.so_far here id_is c.index-units-place.is pair c.in_ok-push.ensures.items;
      counted = omega (arith, so_far.counted, c.in_ok-after.ensures.counted);
      problems = problems-next _ c.loop-place.problems.found.items c.add.new.self.found.items state after outcome units place id unit unit so_far.problems here id_is c.index-units-place.is pair
          (added.found
          ∙ ap₂ (λ tables last. c.loop-place.problems.found.items ++ problem_at id (reason_in tables last unit) outcome) tables_are so_far.last);
      tables = tables_are ∙ sym (ap (λ (state : FoldState). state.tables) after_is ∙ step_tables state id unit);
      last =
          added.last ∙ (ap (λ last. last_after last outcome) so_far.last
          ∙ (ap (last_after state.prev_ref_frame_num) outcome_is
          ∙ sym (ap (λ (state : FoldState). state.prev_ref_frame_num) after_is ∙ step_last state id unit)));
    }
