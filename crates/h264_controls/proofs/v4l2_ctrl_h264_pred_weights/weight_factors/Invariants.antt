use Rattle.h264_controls.proofs.Weights.{AreFilled}
use Rattle.h264_controls.proofs.v4l2_ctrl_h264_pred_weights.weight_factors.Given as goal

-- each place so far has the weights of its entry
abbrev pub invariant-loop-place : goal.invariant-loop-place
invariant-loop-place l = AreFilled l.has_chroma l.weights l.place l.factors
