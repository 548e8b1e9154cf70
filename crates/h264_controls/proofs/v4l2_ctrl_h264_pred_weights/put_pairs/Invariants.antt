-- The first pairs are after the form.
use Rattle.std.proofs.Common.{◌≡◌, ◌+◌, ◌*◌, ◌≤◌, ◌++◌, take, vec_len}
use Rattle.std.specs.Vec.{vec_capacity}
use Rattle.h264_controls.specs.PredWeightsForm.{pairs_form}
use Rattle.h264_controls.proofs.v4l2_ctrl_h264_pred_weights.put_pairs.Given as goal

abbrev pub invariant-loop-pair : goal.invariant-loop-pair
invariant-loop-pair l = record {
  items : l.form.items ≡ l.fn.form.items ++ pairs_form (take l.pair-index l.pairs);
  len : vec_len l.form ≡ vec_len l.fn.form + 4 * l.pair-index;
  capacity : vec_capacity l.fn.form ≤ vec_capacity l.form;
}
