use Rattle.std.proofs.Common.{arith}
use Rattle.std.proofs.lemmas.Int.{ints, to_z-of_z, fits_signed_from_abs}
use Rattle.slice_decoding.proofs.Cycles.{cycles-small}
use Rattle.slice_decoding.proofs.order_count.type_one.whole_cycles.Goals as goal

pub overflow_mul-result : goal.overflow_mul-result
overflow_mul-result c =
    let small = cycles-small c.args.cycles c.total.result _ c.requires.small c.requires.few c.total.ensures.bound in
    grind (arith, ints, to_z-of_z, fits_signed_from_abs)

pub returns-clause-value : goal.returns-clause-value
returns-clause-value c =
    let small = cycles-small c.args.cycles c.total.result _ c.requires.small c.requires.few c.total.ensures.bound in
    grind (arith, ints, to_z-of_z, fits_signed_from_abs)

pub returns-clause-bound : goal.returns-clause-bound
returns-clause-bound c =
    let small = cycles-small c.args.cycles c.total.result _ c.requires.small c.requires.few c.total.ensures.bound in
    grind (arith, ints, to_z-of_z, fits_signed_from_abs)
