use Rattle.std.proofs.Common.{◌≡◌, length, arith, ap, refl, ◌∙◌}
use Rattle.std.proofs.lemmas.List.FromFn.{length-map-range_with_len, map-range_with_len_more}
use Rattle.std.proofs.lemmas.Option.{slice_get_read}
use Rattle.slice_decoding.specs.InitialLists.{standing_at}
use Rattle.slice_decoding.proofs.ref_lists.initial_lists.push_standings.Goals as goal

pub push-requires : goal.push-requires
push-requires c =
    let f = standing_at c.args.sps.now c.args.frame_num c.args.order c.args.frames.now in
    let len : length c.loop-place.standings.items ≡ c.loop-place.place = ap length c.loop-place.invariant ∙ length-map-range_with_len f 0 c.loop-place.place in
    (omega arith, omega arith)

pub loop-place-preserved : goal.loop-place-preserved
loop-place-preserved c =
    let f = standing_at c.args.sps.now c.args.frame_num c.args.order c.args.frames.now in
    let read = slice_get_read c.args.frames.now (length c.args.frames.now) c.loop-place.place c.index-frames-place.result refl c.loop-place-test.true c.index-frames-place.is in
    rw (c.push.ensures.items, c.loop-place.invariant, map-range_with_len_more f 0 c.loop-place.place c.loop-place.place (omega arith), c.standing.ensures, read) refl
