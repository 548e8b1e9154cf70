use Rattle.std.proofs.Common.{◌≡◌, arith}
use Rattle.frame_requests.specs.DpbLayout.{dpb_entry_at, no_entry}
use Rattle.frame_requests.proofs.Filled.{filled-all, filled-more}
use Rattle.frame_requests.proofs.layouts.decode_params.dpb.Goals as goal

pub loop-place-preserved : goal.loop-place-preserved
loop-place-preserved c =
    filled-more no_entry (dpb_entry_at c.args.entries.now c.args.units.now) 16 c.loop-place.place c.loop-place.dpb _ c.loop-place.invariant (omega arith) c.at.ensures

pub returns : goal.returns
returns c =
    let end : c.loop-place.place ≡ 16 = omega (arith, c.loop-place-test.false, c.loop-place.auto.place-end) in
    filled-all _ _ 16 _ (rw end at c.loop-place.invariant)
