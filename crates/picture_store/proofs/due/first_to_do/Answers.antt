use Rattle.std.proofs.Common.{length, subst, sym, All, IsTrue, arith}
use Rattle.std.proofs.lemmas.List.{take_all}
use Rattle.std.proofs.lemmas.List.Elements.{All-more}
use Rattle.picture_store.specs.Settled.{NeedsNone}
use Rattle.picture_store.proofs.due.first_to_do.Goals as goal

pub loop-at-preserved : goal.loop-at-preserved
loop-at-preserved g c =
    let numbers = c.args.numbers.now in
    let needs = NeedsNone c.args.key_slots.now c.args.out.now in
    let yes : IsTrue c.needs_none.result = cc in (
      omega (arith, c.loop-at-test.true),
      All-more needs numbers c.loop-at.at c.index-numbers-at.result c.loop-at-test.true c.loop-at.invariant.1
          (subst needs c.index-numbers-at.is (c.needs_none.ensures.0 yes)),
    )

pub returns : goal.returns
returns g c =
    let numbers = c.args.numbers.now in
    let needs = NeedsNone c.args.key_slots.now c.args.out.now in (
      omega arith,
      subst (λ xs. All needs xs) (sym (take_all (length numbers) numbers (omega arith)))
          (subst (λ xs. All needs xs) (take_all c.loop-at.at numbers c.loop-at-test.false) c.loop-at.invariant.1),
    )
