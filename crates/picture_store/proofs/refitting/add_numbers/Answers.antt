use Rattle.std.proofs.Common.{◌≡◌, ◌+◌, ◌++◌, ◌∷◌, [], sym, ap, ◌∙◌, subst, Contains, Some, arith}
use Rattle.std.proofs.lemmas.List.{take_all}
use Rattle.std.proofs.lemmas.List.Elements.{Contains-append_left}
use Rattle.std.proofs.lemmas.List.Sums.{sum_by_push}
use Rattle.held_pictures.specs.Counting.{once_if, once_at, times, times_in}
use Rattle.held_pictures.proofs.Taking.{times_more}
use Rattle.picture_store.proofs.Loops.{added_more, added_none}
use Rattle.picture_store.proofs.refitting.add_numbers.Goals as goal
use Rattle.picture_store.proofs.refitting.add_numbers.Goals.{in-Some+in_ok-push, in_default}

pub loop-key-preserved : goal.loop-key-preserved
loop-key-preserved c =
    let before = c.loop-key.roots.items in
    let numbers = c.args.numbers.now in
    let at = c.loop-key.key-index in
    elim c.match-key.branch [
      | in-Some+in_ok-push w ↦
          let pushed : c.match-key.roots.items ≡ before ++ w.in-Some.key ∷ [] =
          ap (λ roots. roots.items) w.roots-is ∙ w.in_ok-push.ensures.items in
          record {
            old = λ number there.
                subst (λ xs. Contains xs number) (sym pushed) (Contains-append_left before (w.in-Some.key ∷ []) number (c.loop-key.invariant.old number there));
            added = added_more before c.match-key.roots.items numbers at w.in-Some.key c.key-item.result c.loop-key-test.true c.key-item.is w.in-Some.is pushed c.loop-key.invariant.added;
            counted = λ number.
                omega (
                  arith,
                  c.loop-key.invariant.counted number,
                  times_more numbers at number c.key-item.result c.loop-key-test.true c.key-item.is,
                  ap (once_at number) w.in-Some.is,
                  ap (times_in number) pushed,
                  sum_by_push (once_if number) before w.in-Some.key,
                );
          }
      | in_default w ↦
          let same : c.match-key.roots.items ≡ before = ap (λ roots. roots.items) w.roots-is in
          record {
            old = λ number there. subst (λ xs. Contains xs number) (sym same) (c.loop-key.invariant.old number there);
            added = λ number there.
                subst (λ xs. Contains xs number) (sym same)
                (added_none before numbers at c.key-item.result c.loop-key-test.true c.key-item.is w.in_default.is c.loop-key.invariant.added number there);
            counted = λ number.
                omega (
                  arith,
                  c.loop-key.invariant.counted number,
                  times_more numbers at number c.key-item.result c.loop-key-test.true c.key-item.is,
                  ap (once_at number) w.in_default.is,
                  ap (times_in number) same,
                );
          }
    ]

pub returns-clause-added : goal.returns-clause-added
returns-clause-added c = λ number there.
    c.loop-key.invariant.added number
    (subst (λ xs. Contains xs (Some number)) (sym (take_all c.loop-key.key-index c.args.numbers.now c.loop-key-test.false)) there)

pub returns-clause-counted : goal.returns-clause-counted
returns-clause-counted c = λ number.
    subst (λ keys. times_in number c.loop-key.roots.items ≡ times_in number c.args.roots.now.items + times number keys)
    (take_all c.loop-key.key-index c.args.numbers.now c.loop-key-test.false) (c.loop-key.invariant.counted number)
