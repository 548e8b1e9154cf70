use Rattle.std.proofs.Common.{refl, ◌≡◌, ◌∙◌, ◌++◌, ◌∷◌, [], All, ap, sym, subst, take, arith}
use Rattle.std.proofs.lemmas.Grind.{common_steps}
use Rattle.std.proofs.lemmas.List.{take_all, take_more}
use Rattle.std.proofs.lemmas.List.Elements.{All-push}
use Rattle.h264_types.specs.declared.pictures.frames.Frame.{Frame}
use Rattle.picture_keys.specs.Following.{UnitNumbers}
use Rattle.picture_keys.specs.Numbered.{number_at}
use Rattle.picture_store.proofs.refitting.agree_on.Goals as goal

pub loop-frame-preserved : goal.loop-frame-preserved
loop-frame-preserved c =
    let frames = c.args.frames.now in
    let at = c.loop-frame.frame-index in
    let frame = c.frame-item.result in
    let same : c.in_ok-get.field-0 ≡ c.in_ok-number_at.field-0 = grind (arith, common_steps, c.ne.ensures, c.if-ne.false) in
    let here : number_at c.args.before.now frame.id ≡ number_at c.args.after.now.numbers frame.id =
    ap (λ numbers. number_at numbers frame.id) (sym c.loop-frame.invariant.before)
    ∙ (sym c.in_ok-get.ensures.ok
    ∙ (same
    ∙ (c.in_ok-number_at.ensures.ok ∙ ap (λ (units : UnitNumbers). number_at units.numbers frame.id) c.loop-frame.invariant.after)))
    in record {
      agree =
          subst (All (λ (frame : Frame). number_at c.args.before.now frame.id ≡ number_at c.args.after.now.numbers frame.id))
          (sym (take_more frames at frame c.loop-frame-test.true ∙ ap (λ x. take at frames ++ x ∷ []) (sym c.frame-item.is)))
          (All-push (λ (frame : Frame). number_at c.args.before.now frame.id ≡ number_at c.args.after.now.numbers frame.id)
          (take at frames) frame c.loop-frame.invariant.agree here);
      before = c.get.ensures.same ∙ c.loop-frame.invariant.before;
      after = c.number_at.ensures.same ∙ c.loop-frame.invariant.after;
    }

pub returns-clause-ok : goal.returns-clause-ok
returns-clause-ok c = (
  λ yes.
      subst (All (λ (frame : Frame). number_at c.args.before.now frame.id ≡ number_at c.args.after.now.numbers frame.id))
      (take_all c.loop-frame.frame-index c.args.frames.now c.loop-frame-test.false) c.loop-frame.invariant.agree,
  λ all. refl,
)

pub returns-then-ne-clause-ok : goal.returns-then-ne-clause-ok
returns-then-ne-clause-ok c =
    let frame = c.frame-item.result in
    let differ : All (λ (frame : Frame). number_at c.args.before.now frame.id ≡ number_at c.args.after.now.numbers frame.id) c.args.frames.now → ⊥ =
    λ all.
    let here : number_at c.args.before.now frame.id ≡ number_at c.args.after.now.numbers frame.id =
    subst (λ (frame : Frame). number_at c.args.before.now frame.id ≡ number_at c.args.after.now.numbers frame.id)
    (sym c.frame-item.is) (all c.loop-frame.frame-index frame c.loop-frame-test.true) in
    let same : c.in_ok-get.field-0 ≡ c.in_ok-number_at.field-0 =
    c.in_ok-get.ensures.ok
    ∙ (ap (λ numbers. number_at numbers frame.id) c.loop-frame.invariant.before
    ∙ (here
    ∙ (ap (λ (units : UnitNumbers). number_at units.numbers frame.id) (sym c.loop-frame.invariant.after)
    ∙ sym c.in_ok-number_at.ensures.ok))) in
    grind (arith, common_steps, c.ne.ensures, c.if-ne.true, same) in
    (λ no. absurd cc, λ all. absurd (differ all))
