use Rattle.std.proofs.Common.{◌≡◌, ℤ, ap, ◌∙◌, arith}
use Rattle.std.proofs.lemmas.Int.{ints}
use Rattle.h264_types.specs.declared.pictures.counts.Counts.{Counts}
use Rattle.slice_decoding.specs.TypeOne.{type_one}
use Rattle.slice_decoding.proofs.order_count.type_one.type_one.Goals as goal

pub overflow_add-result-2 : goal.overflow_add-result-2
overflow_add-result-2 c = omega (arith, ints)

same : (counts others : Counts) → counts.top ≡ others.top → counts.bottom ≡ others.bottom → counts ≡ others
same counts others top bottom =
    let P : ℤ → Counts = λ t. record { top = t; bottom = counts.bottom } in
    let Q : ℤ → Counts = λ b. record { top = others.top; bottom = b } in
    ap P top ∙ ap Q bottom

pub returns : goal.returns
unfolding type_one
returns c = same _ _ (omega (arith, ints)) (omega (arith, ints))
