-- What is told of one range more, and of all of them.
use Rattle.std.proofs.Common.{◌≡◌, ◌∙◌, ◌+◌, ◌<◌, ℕ, get_or, length, length-set, map, set, subst, arith}
use lib.Seq.{paste}
use Rattle.std.proofs.lemmas.List.{get_or-map, length-map}
use Rattle.std.proofs.lemmas.List.Edits.{paste_all, paste_more}
use Rattle.stream_mending.specs.declared.why.LeftOut.{LeftOut}
use Rattle.stream_mending.specs.declared.why.Why.TheVariants.{NotNalUnit}
use Rattle.c_calls.specs.Mending.{as_left_out_bytes}
use Rattle.c_calls.proofs.mending.fill_left_out.Goals as goal

-- nothing before a place
none-before : (at : ℕ) → 0 + at ≡ at
none-before at = omega arith

pub loop-index-preserved : goal.loop-index-preserved
loop-index-preserved c =
    let was = c.args.left_out.now in
    let from = c.args.from.now in
    let told = map as_left_out_bytes from in
    let at = c.loop-index.index in
    let long = length-map from as_left_out_bytes in
    let here : at < length told = omega (arith, c.loop-index-test.true, long) in
    let capacity : 0 + at < length was = omega (arith, c.requires, c.loop-index-test.true) in
    let none : LeftOut = record { byte = 0; bytes = 0; why = NotNalUnit } in
    record {
      pasted = rw (c.loop-index.invariant.pasted, c.as_left_out_bytes.ensures)
          (subst (λ (place : ℕ). set (paste was 0 told at) place (as_left_out_bytes (get_or from at none)) ≡ paste was 0 told (at + 1))
          (none-before at)
          (subst (λ one. set (paste was 0 told at) (0 + at) one ≡ paste was 0 told (at + 1))
          (get_or-map as_left_out_bytes from at none (as_left_out_bytes none) c.loop-index-test.true)
          (paste_more was 0 told at (as_left_out_bytes none) capacity here)));
      long = length-set c.loop-index.left_out at _ ∙ c.loop-index.invariant.long;
    }

pub returns : goal.returns
returns c =
    let from = c.args.from.now in
    let told = map as_left_out_bytes from in
    let long = length-map from as_left_out_bytes in
    let end : c.loop-index.index ≡ length told = omega (arith, c.loop-index-test.false, c.loop-index.auto.index-end, long) in
    rw (none-before c.loop-index.index, end) at
    (c.loop-index.invariant.pasted ∙ paste_all c.args.left_out.now 0 told c.loop-index.index end)
