use Rattle.std.proofs.Common.{◌≡◌, arith}
use Rattle.std.specs.Prelude.{None}
use Rattle.frame_requests.specs.SliceParamsLayout.{reference_at, reference_layout}
use Rattle.frame_requests.proofs.Filled.{filled-all, filled-more}
use Rattle.frame_requests.proofs.layouts.slice_params.ref_pic_list.Goals as goal

pub loop-place-preserved : goal.loop-place-preserved
loop-place-preserved c =
    filled-more (reference_layout None) (reference_at c.args.entries.now) 32 c.loop-place.place c.loop-place.list _ c.loop-place.invariant (omega arith) c.reference_at.ensures

pub returns : goal.returns
returns c =
    let end : c.loop-place.place ≡ 32 = omega (arith, c.loop-place-test.false, c.loop-place.auto.place-end) in
    filled-all _ _ 32 _ (rw end at c.loop-place.invariant)
