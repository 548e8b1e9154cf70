use Rattle.std.proofs.Common.{◌≡◌, ◌+◌, ◌∙◌, ◌++◌, ◌∷◌, [], ℕ, List, length, ap, sym, subst, arith}
use Rattle.unit_outcomes.specs.SeenUnits.{SeenUnit}
use Rattle.unit_outcomes.specs.declared.outcome.Outcome.{Outcome}
use Rattle.request_core.specs.States.{FoldState}
use Rattle.plan_stream.specs.Shown.{shown_of}
use Rattle.plan_stream.specs.Streams.{numbered_from}
use Rattle.stream_session.specs.Doubting.{seen_in}
use Rattle.draw_run.specs.Chosen.{chosen}
use Rattle.draw_run.specs.Folds.{AreWalked}
use Rattle.draw_run.proofs.FoldSteps.{count_is, kept_more, kept_so_far, next_id, outcomes_more, seen_more, state_more}
use Rattle.draw_run.proofs.Seen.{seen_of, walked-more}
use Rattle.draw_run.proofs.drawn_fold.DrawnFoldUnitFold.add.Goals as goal

pub returns : goal.returns
returns c = λ first done is.
    let old = c.args.self.now in
    let unit = c.args.unit.now in
    let id = c.new-id.result in
    let id_is : id ≡ 1 + length done = omega (arith, c.new-id.ensures, c.len.ensures, old.outcomes.ok.0, count_is first done old is) in
    let pair = c.in_ok-state.ensures.value in
    let own = ap (λ (p : FoldState × Outcome). p.1) pair in
    record {
      choice_is = is.choice_is;
      state_is = ap (λ (p : FoldState × Outcome). p.0) pair ∙ state_more first done old is unit id id_is;
      outcomes_are =
          c.in_ok-push-2.ensures.items
          ∙ ap (λ (o : Outcome). old.outcomes.items ++ o ∷ []) (c.shown_of.ensures ∙ ap (λ (p : FoldState × Outcome). shown_of p.1) pair)
          ∙ outcomes_more first done old is unit id id_is;
      walked = rw c.in_ok-push.ensures.items
          (subst (λ (seen : List SeenUnit). AreWalked seen c.in_ok-walk.walk (old.doubts.items ++ c.in_ok-walk.doubt ∷ []))
          (seen_more first done old is unit id id_is)
          (rw own at (walked-more (seen_in (numbered_from 1 done)) old.walk c.in_ok-walk.walk old.doubts.items
          (seen_of id unit c.in_ok-state.outcome) c.in_ok-walk.doubt is.walked
          (rw (c.is_reference.ensures, c.replace-walk.ensures.value) at c.in_ok-walk.ensures))));
      kept_are =
          rw own at
          (c.in_ok-keep.ensures.kept (kept_so_far first done old is unit id id_is) is.kept_are (next_id first done old is unit id id_is))
          ∙ ap (chosen old.choice.from old.choice.units) (kept_more first done old is unit id id_is);
    }
