-- One id more, and all of them.
use Rattle.std.proofs.Common.{◌≡◌, ◌∙◌, ◌+◌, ℕ, get_or, length, length-set, set, subst, arith}
use lib.Seq.{paste}
use Rattle.std.proofs.lemmas.List.Edits.{paste_all, paste_more}
use Rattle.c_calls.proofs.grouping.fill_ids.Goals as goal

-- nothing before a place
none-before : (at : ℕ) → 0 + at ≡ at
none-before at = omega arith

pub loop-index-preserved : goal.loop-index-preserved
loop-index-preserved c = record {
  pasted = rw (c.loop-index.invariant.pasted, c.number.ensures, c.index-from-index.is)
      (subst (λ (at : ℕ). set (paste c.args.ids.now 0 c.args.from.now c.loop-index.index) at
      (get_or c.args.from.now c.loop-index.index c.index-from-index.result) ≡ paste c.args.ids.now 0 c.args.from.now (c.loop-index.index + 1))
      (none-before c.loop-index.index)
      (paste_more c.args.ids.now 0 c.args.from.now c.loop-index.index c.index-from-index.result
      (omega (arith, c.requires, c.loop-index-test.true)) (omega (arith, c.loop-index-test.true))));
  long = length-set c.loop-index.ids c.loop-index.index _ ∙ c.loop-index.invariant.long;
}

pub returns : goal.returns
returns c =
    let end : c.loop-index.index ≡ length c.args.from.now = omega (arith, c.loop-index-test.false, c.loop-index.auto.index-end) in
    rw (none-before c.loop-index.index, end) at
    (c.loop-index.invariant.pasted ∙ paste_all c.args.ids.now 0 c.args.from.now c.loop-index.index end)
