-- V4L2_CID_STATELESS_H264_SCALING_MATRIX in the digest form.
use Rattle.std.specs.Prelude.{ℕ, List, ◌++◌}
use Rattle.std.specs.List.{flat_map}
use Rattle.param_set_controls.specs.declared.v4l2_ctrl_h264_scaling_matrix.V4l2CtrlH264ScalingMatrix.{V4l2CtrlH264ScalingMatrix}

-- lists one after the other, an entry a byte
abbrev pub lists_form : List (List ℕ) → List ℕ
lists_form lists = flat_map (λ list. list) lists

-- its members in order
unfoldable pub scaling_matrix_form : V4l2CtrlH264ScalingMatrix → List ℕ
scaling_matrix_form matrix = lists_form matrix.scaling_list_4x4 ++ lists_form matrix.scaling_list_8x8
