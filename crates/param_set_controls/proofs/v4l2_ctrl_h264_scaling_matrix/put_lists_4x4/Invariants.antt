-- The first lists are after the form.
use Rattle.std.proofs.Common.{◌≡◌, ◌+◌, ◌*◌, ◌≤◌, ◌++◌, take, vec_len}
use Rattle.std.specs.Vec.{vec_capacity}
use Rattle.param_set_controls.specs.ScalingMatrixForm.{lists_form}
use Rattle.param_set_controls.proofs.v4l2_ctrl_h264_scaling_matrix.put_lists_4x4.Given as goal

abbrev pub invariant-loop-list : goal.invariant-loop-list
invariant-loop-list l = record {
  items : l.form.items ≡ l.fn.form.items ++ lists_form (take l.list-index l.lists);
  len : vec_len l.form ≡ vec_len l.fn.form + 16 * l.list-index;
  capacity : vec_capacity l.fn.form ≤ vec_capacity l.form;
}
