use Rattle.std.proofs.Common.{subst, All, arith}
use Rattle.std.proofs.lemmas.List.{take_all}
use Rattle.std.proofs.lemmas.List.Elements.{All-more}
use Rattle.picture_store.specs.Due.{IsNotDue}
use Rattle.picture_store.proofs.due.first_due.Goals as goal

pub loop-at-preserved : goal.loop-at-preserved
loop-at-preserved g c =
    let numbers = c.args.numbers.now in
    let other = IsNotDue c.args.keys.now c.args.key_slots.now c.args.out.now in (
      omega (arith, c.loop-at-test.true),
      All-more other numbers c.loop-at.at c.index-numbers-at.result c.loop-at-test.true c.loop-at.invariant.1
          (subst other c.index-numbers-at.is (c.has_due.ensures.other (λ yes. cc))),
    )

pub returns : goal.returns
returns g c =
    let numbers = c.args.numbers.now in
    let other = IsNotDue c.args.keys.now c.args.key_slots.now c.args.out.now in
    subst (λ xs. All other xs) (take_all c.loop-at.at numbers c.loop-at-test.false) c.loop-at.invariant.1
