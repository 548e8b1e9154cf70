-- Each NAL unit is cut off with its start code.
use Rattle.std.proofs.Common.{[], ◌+◌, drop}
use Rattle.std.proofs.lemmas.List.{get_or_read}
use Rattle.access_unit.proofs.Progress.{left_next, IsCutTo-more}
use Rattle.access_unit.proofs.cuts.cut_all.Goals as goal

pub cut_next-requires : goal.cut_next-requires
cut_next-requires c =
    let loop = c.loop-nal in
    let item_is = get_or_read c.args.nals.now loop.nal-index c.nal-item.result c.loop-nal-test.true c.nal-item.is [] in
    (drop (loop.nal-index + 1) c.args.nals.now, rw item_is (left_next _ _ _ loop.invariant.left c.loop-nal-test.true))

pub loop-nal-preserved : goal.loop-nal-preserved
loop-nal-preserved c =
    let loop = c.loop-nal in
    let item_is = get_or_read c.args.nals.now loop.nal-index c.nal-item.result c.loop-nal-test.true c.nal-item.is [] in
    let next = left_next _ _ _ loop.invariant.left c.loop-nal-test.true in
    rw (c.in_ok-push.ensures.items, c.in_ok-cut_next.ensures.nal, item_is)
    (IsCutTo-more _ _ _ _ loop.invariant c.loop-nal-test.true _ (c.in_ok-cut_next.ensures.rest _ (rw item_is next)))
