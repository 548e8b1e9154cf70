-- What is told of one unit more, and of all of them.
use Rattle.std.proofs.Common.{◌≡◌, ◌∙◌, ◌+◌, ◌<◌, ℕ, get_or, length, length-set, map, set, subst, ap, arith}
use lib.Seq.{paste}
use Rattle.std.proofs.lemmas.List.{get_or-map, length-map}
use Rattle.std.proofs.lemmas.List.Edits.{paste_all, paste_more}
use Rattle.c_calls.specs.Doubting.{as_unit_doubt}
use Rattle.c_calls.proofs.doubting.fill_doubts.Goals as goal

-- nothing before a place
none-before : (at : ℕ) → 0 + at ≡ at
none-before at = omega arith

pub loop-index-preserved : goal.loop-index-preserved
loop-index-preserved c =
    let was = c.args.doubts.now in
    let from = c.args.from.now in
    let told = map as_unit_doubt from in
    let at = c.loop-index.index in
    let long = length-map from as_unit_doubt in
    let here : at < length told = omega (arith, c.loop-index-test.true, long) in
    let capacity : 0 + at < length was = omega (arith, c.requires, c.loop-index-test.true) in
    record {
      pasted = rw (c.loop-index.invariant.pasted, c.as_unit_doubt.ensures, c.index-from-index.is)
          (subst (λ (place : ℕ). set (paste was 0 told at) place (as_unit_doubt (get_or from at c.index-from-index.result)) ≡ paste was 0 told (at + 1))
          (none-before at)
          (subst (λ one. set (paste was 0 told at) (0 + at) one ≡ paste was 0 told (at + 1))
          (get_or-map as_unit_doubt from at c.index-from-index.result (as_unit_doubt c.index-from-index.result) c.loop-index-test.true)
          (paste_more was 0 told at (as_unit_doubt c.index-from-index.result) capacity here)));
      long = length-set c.loop-index.doubts at _ ∙ c.loop-index.invariant.long;
    }

pub returns : goal.returns
returns c =
    let from = c.args.from.now in
    let told = map as_unit_doubt from in
    let long = length-map from as_unit_doubt in
    let end : c.loop-index.index ≡ length told = omega (arith, c.loop-index-test.false, c.loop-index.auto.index-end, long) in
    rw (none-before c.loop-index.index, end) at
    (c.loop-index.invariant.pasted ∙ paste_all c.args.doubts.now 0 told c.loop-index.index end)
