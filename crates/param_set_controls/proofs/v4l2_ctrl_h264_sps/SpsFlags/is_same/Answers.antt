use Rattle.std.proofs.lemmas.Bool.Decides.{Decides-at}
use Rattle.param_set_controls.proofs.Same.{sps_flags_same}
use Rattle.param_set_controls.proofs.v4l2_ctrl_h264_sps.SpsFlags.is_same.Goals as goal

pub returns : goal.returns
returns c = Decides-at _ _ c.eq.ensures (sps_flags_same _ _)
