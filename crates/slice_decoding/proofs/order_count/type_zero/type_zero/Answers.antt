use Rattle.std.proofs.Common.{arith}
use Rattle.std.proofs.lemmas.Int.{ints, to_z-of_z}
use Rattle.slice_decoding.specs.TypeZero.{type_zero}
use Rattle.slice_decoding.proofs.order_count.type_zero.type_zero.Goals as goal

pub returns : goal.returns
unfolding type_zero
returns c = grind (arith, ints, to_z-of_z)
