use Rattle.std.proofs.lemmas.Bool.Decides.{Decides-at}
use Rattle.h264_controls.proofs.Same.{weights_same}
use Rattle.h264_controls.proofs.v4l2_ctrl_h264_pred_weights.same_factors.Goals as goal

pub returns : goal.returns
returns c = Decides-at _ _ c.eq.ensures (weights_same _ _)
