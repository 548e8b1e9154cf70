use Rattle.std.proofs.Common.{arith, sym, ◌∙◌, ap}
use Rattle.std.proofs.lemmas.Grind.{common_steps}
use Rattle.picture_keys.specs.Numbered.{number_at}
use Rattle.picture_keys.proofs.Columns.{over_all, is_here, is_other, is_none}
use Rattle.picture_keys.proofs.numbers.number_among.Goals as goal
use Rattle.picture_keys.proofs.numbers.number_among.Goals.{else-eq-via-then-eq+else-is_some, else-eq-via-else-eq}

pub loop-at-init : goal.loop-at-init
loop-at-init c = record {
  in_ids = omega (arith, c.min-at.ensures);
  in_found = omega (arith, c.min-at.ensures);
  same = ap (λ numbers. number_at numbers c.args.id)
      (sym (over_all _ c.args.ids.now c.args.numbers.now c.min-at.result (omega (arith, c.min-at.ensures))));
}

pub returns-then-is_some : goal.returns-then-is_some
returns-then-is_some c =
    is_here c.args.ids.now c.args.numbers.now c.loop-at.at c.args.id c.index-ids-at.result c.index-numbers-at.result
    (omega (arith, c.loop-at-test.true)) c.loop-at.invariant.in_ids c.loop-at.invariant.in_found c.index-ids-at.is
    c.index-numbers-at.is c.loop-at.invariant.same (grind (arith, common_steps, c.if-eq.true, c.eq.ensures))
    (sym c.is_some.ensures ∙ c.if-is_some.true)

pub loop-at-preserved : goal.loop-at-preserved
loop-at-preserved c = record {
  in_ids = omega (arith, c.loop-at.invariant.in_ids);
  in_found = omega (arith, c.loop-at.invariant.in_found);
  same = elim c.else-eq.branch [
    | else-eq-via-then-eq+else-is_some w ↦
        is_none c.args.ids.now c.args.numbers.now c.loop-at.at c.args.id c.index-ids-at.result c.index-numbers-at.result
        (omega (arith, c.loop-at-test.true)) c.loop-at.invariant.in_ids c.loop-at.invariant.in_found c.index-ids-at.is
        c.index-numbers-at.is c.loop-at.invariant.same (sym w.is_some.ensures ∙ w.if-is_some.false)
    | else-eq-via-else-eq w ↦
        is_other c.args.ids.now c.args.numbers.now c.loop-at.at c.args.id c.index-ids-at.result c.index-numbers-at.result
        (omega (arith, c.loop-at-test.true)) c.loop-at.invariant.in_ids c.loop-at.invariant.in_found c.index-ids-at.is
        c.index-numbers-at.is c.loop-at.invariant.same (λ same. grind (arith, common_steps, w.if-eq.false, c.eq.ensures, same))
  ];
}
