-- What is counted so far and the next slice are within the bytes of all.
use Rattle.std.proofs.Common.{[], ◌+◌, ap, length, arith}
use Rattle.std.proofs.lemmas.List.{get_or_read}
use Rattle.access_unit.proofs.Lengths.{length-joined-more, length-joined-part}
use Rattle.picture_keys.proofs.digest.SlicesDigest.of.Goals as goal

pub feed-requires : goal.feed-requires
feed-requires c =
    let loop = c.loop-slice in
    let item_is = get_or_read c.args.slices.now loop.slice-index c.slice-item.result c.loop-slice-test.true c.slice-item.is [] in
    omega (
      arith,
      c.requires,
      loop.invariant.counted,
      ap length item_is,
      length-joined-more c.args.slices.now loop.slice-index c.loop-slice-test.true,
      length-joined-part c.args.slices.now (loop.slice-index + 1),
    )
