use Rattle.std.proofs.Common.{◌++◌, ◌∷◌, ◌∙◌, [], ℕ, List, take, sym, ap, subst, append_assoc, add-one, inr, arith}
use Rattle.unit_outcomes.specs.declared.outcome.Outcome.{Outcome}
use Rattle.std.proofs.lemmas.List.{append-nil}
use Rattle.picture_keys.specs.Following.{Follow, UnitNumbers}
use Rattle.picture_keys.specs.Numbered.{number_at, numbers_over}
use Rattle.picture_keys.proofs.Columns.{over_more, with_alike}
use Rattle.picture_store.specs.Needs.{AgreeAt, between}
use Rattle.picture_store.proofs.Fronts.{between_none, between_more}
use Rattle.picture_store.proofs.Needed.{agree_alike}
use Rattle.picture_store.proofs.refitting.go_on.Goals as goal

pub loop-at-init : goal.loop-at-init
loop-at-init g c = record {
  stay = λ number tree h. h;
  one = λ h. h;
  some = c.requires.some;
  was = λ id. ap (λ numbers. number_at numbers id) c.numbers_up_to-before.ensures;
  follow = λ known before h.
      rw (between_none c.args.to c.args.units.now.ids.now c.args.units.now.outcomes.now, append-nil before) h;
}

pub returns-then-branch-clause-agree : goal.returns-then-branch-clause-agree
returns-then-branch-clause-agree g c =
    let states = c.args.states.now.states in
    let at = c.loop-at.at in
    inr (agree_alike states at c.loop-at.before
    (numbers_over [] (take at c.args.units.now.ids.now) (take at c.args.units.now.numbers.now)) c.agree_at.new.after.numbers
    c.loop-at.invariant.was
    (subst (λ (units : UnitNumbers). AgreeAt states at c.loop-at.before units.numbers) (sym c.agree_at.ensures.after)
    (c.in_ok-agree_at.ensures.ok.0 c.if-branch.true)))

pub loop-at-preserved : goal.loop-at-preserved
loop-at-preserved g c = record {
  stay = λ number tree h. c.in_ok-add.ensures.stay number tree (c.loop-at.invariant.stay number tree h);
  one = λ h. c.in_ok-add.ensures.one (c.loop-at.invariant.one h);
  some = c.in_ok-add.ensures.some;
  was = λ id.
      let ids = c.args.units.now.ids.now in
      let numbers = c.args.units.now.numbers.now in
      let at = c.loop-at.at in
      let more =
      over_more [] ids numbers at c.index-units-at.result c.index-units-at-in-loop-at.result (omega arith)
      (omega (arith, c.requires.numbers)) c.index-units-at.is c.index-units-at-in-loop-at.is in
      let noted = rw (← c.index-units-at.is, ← c.index-units-at-in-loop-at.is) at c.in_ok-note.ensures.ok id in
      noted
      ∙ (with_alike c.agree_at.new.before (numbers_over [] (take at ids) (take at numbers)) c.index-units-at.result
      c.index-units-at-in-loop-at.result
      (λ other. ap (λ numbers. number_at numbers other) c.agree_at.ensures.before ∙ c.loop-at.invariant.was other) id
      ∙ ap (λ numbers. number_at numbers id) (sym (ap (λ n. numbers_over [] (take n ids) (take n numbers)) (add-one at) ∙ more)));
  follow = λ known before h.
      let ids = c.args.units.now.ids.now in
      let outcomes = c.args.units.now.outcomes.now in
      let at = c.loop-at.at in
      let so_far : List (ℕ × Outcome) = between c.args.to at ids outcomes in
      let unit : ℕ × Outcome = (c.index-units-at-in-loop-at-2.result, c.index-units-at-in-loop-at-3.result) in
      let more = between_more c.args.to at ids outcomes c.index-units-at-in-loop-at-2.result c.index-units-at-in-loop-at-3.result
      c.loop-at.auto.at (omega arith) (omega arith) c.index-units-at-in-loop-at-2.is c.index-units-at-in-loop-at-3.is in
      subst (λ units. Follow c.add.new.keys known units c.add.new.self)
      (append_assoc before so_far (unit ∷ []) ∙ ap (λ units. before ++ units) (sym more))
      (rw (c.deref.ensures, ← c.index-units-at-in-loop-at-2.is, ← c.index-units-at-in-loop-at-3.is) at
      c.in_ok-add.ensures.ok known (before ++ so_far)
      (subst (λ (units : UnitNumbers). Follow c.loop-at.keys known (before ++ so_far) units) (sym c.agree_at.ensures.after)
      (c.loop-at.invariant.follow known before h)));
}
