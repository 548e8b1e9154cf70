use Rattle.slice_decoding.proofs.Counted.{answered, small-offset}
use Rattle.slice_decoding.proofs.order_count.anchors.anchor_after.Goals as goal

pub of_picture-requires : goal.of_picture-requires
of_picture-requires c =
    let is = answered c.args.anchor.now c.args.sps.now c.args.header.now c.args.counts c.requires in
    small-offset c.args.sps.now.pic_order_cnt_type c.args.anchor.now c.args.sps.now c.args.header.now c.in-One.is is.small
