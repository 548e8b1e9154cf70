use Rattle.std.proofs.Common.{ℕ, List, ◌++◌, ◌∷◌, [], take, sym, ap, ◌∙◌, subst, append_assoc, arith}
use Rattle.std.specs.List.{zip}
use Rattle.std.proofs.lemmas.List.{append-nil}
use Rattle.unit_outcomes.specs.declared.outcome.Outcome.{Outcome}
use Rattle.picture_keys.specs.Following.{Follow}
use Rattle.picture_store.proofs.Loops.{zip_read}
use Rattle.picture_store.proofs.refitting.go_over.Goals as goal

pub loop-at-init : goal.loop-at-init
loop-at-init g c = record {
  stay = λ number tree h. h;
  one = λ h. h;
  within = omega arith;
  some = c.requires.some;
  follow = λ known before h. rw (append-nil before) h;
}

pub loop-at-preserved : goal.loop-at-preserved
loop-at-preserved g c = record {
  stay = λ number tree h. c.in_ok-add.ensures.stay number tree (c.loop-at.invariant.stay number tree h);
  one = λ h. c.in_ok-add.ensures.one (c.loop-at.invariant.one h);
  within = omega arith;
  some = c.in_ok-add.ensures.some;
  follow = λ known before h.
      let ids = c.args.ids.now in
      let outcomes = c.args.outcomes.now in
      let at = c.loop-at.at in
      let front : List (ℕ × Outcome) = zip (take at ids) (take at outcomes) in
      let unit : ℕ × Outcome = (c.index-ids-at.result, c.index-outcomes-at.result) in
      let more = zip_read ids outcomes at c.index-ids-at.result c.index-outcomes-at.result (omega arith) (omega arith) c.index-ids-at.is c.index-outcomes-at.is in
      subst (λ units. Follow c.add.new.keys known units c.add.new.self)
      (append_assoc before front (unit ∷ []) ∙ ap (λ units. before ++ units) (sym more))
      (rw (c.deref.ensures) at
      c.in_ok-add.ensures.ok known (before ++ front) (c.loop-at.invariant.follow known before h));
}
