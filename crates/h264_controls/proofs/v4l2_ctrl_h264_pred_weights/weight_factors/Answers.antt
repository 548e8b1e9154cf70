use Rattle.std.proofs.Common.{◌≡◌, arith}
use Rattle.h264_controls.proofs.Weights.{weights-all, weights-more}
use Rattle.h264_controls.proofs.v4l2_ctrl_h264_pred_weights.weight_factors.Goals as goal

pub loop-place-preserved : goal.loop-place-preserved
loop-place-preserved c =
    rw (c.put.ensures, c.weight_at.ensures) (weights-more c.args.has_chroma c.args.weights.now c.loop-place.place c.loop-place.factors c.loop-place.invariant (omega arith))

pub returns : goal.returns
returns c =
    let end : c.loop-place.place ≡ 32 = omega (arith, c.loop-place-test.false, c.loop-place.auto.place-end) in
    weights-all _ _ _ (rw end at c.loop-place.invariant)
