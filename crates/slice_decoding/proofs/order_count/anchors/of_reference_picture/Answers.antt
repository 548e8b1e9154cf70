use Rattle.std.proofs.Common.{arith}
use Rattle.std.proofs.lemmas.Int.{ints, to_z-of_z, fits_signed_from_abs}
use Rattle.slice_decoding.proofs.Counted.{answered, msb-small}
use Rattle.slice_decoding.proofs.order_count.anchors.of_reference_picture.Goals as goal

pub after_reset-requires : goal.after_reset-requires
after_reset-requires c =
    (answered c.args.anchor.now c.args.sps.now c.args.header.now c.args.counts c.requires.counted).kept

pub overflow_cast-result : goal.overflow_cast-result
overflow_cast-result c =
    let is = answered c.args.anchor.now c.args.sps.now c.args.header.now c.args.counts c.requires.counted in
    let small = msb-small c.args.sps.now.pic_order_cnt_type c.args.anchor.now c.args.sps.now c.args.header.now c.args.counts c.requires.zero is.same is.now (omega arith) in
    grind (arith, ints, fits_signed_from_abs)

pub returns-else-resets : goal.returns-else-resets
returns-else-resets c =
    let is = answered c.args.anchor.now c.args.sps.now c.args.header.now c.args.counts c.requires.counted in
    let small = msb-small c.args.sps.now.pic_order_cnt_type c.args.anchor.now c.args.sps.now c.args.header.now c.args.counts c.requires.zero is.same is.now (omega arith) in
    grind (arith, ints, to_z-of_z, fits_signed_from_abs)
