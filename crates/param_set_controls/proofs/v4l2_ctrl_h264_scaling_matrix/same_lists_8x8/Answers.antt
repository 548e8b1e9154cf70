use Rattle.std.proofs.lemmas.Bool.Decides.{Decides-at}
use Rattle.param_set_controls.proofs.Same.{scaling_lists_same}
use Rattle.param_set_controls.proofs.v4l2_ctrl_h264_scaling_matrix.same_lists_8x8.Goals as goal

pub returns : goal.returns
returns c = Decides-at _ _ c.eq.ensures (scaling_lists_same _ _)
