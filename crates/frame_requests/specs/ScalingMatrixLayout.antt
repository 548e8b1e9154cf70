-- struct v4l2_ctrl_h264_scaling_matrix (linux/v4l2-controls.h).
use Rattle.param_set_controls.specs.declared.v4l2_ctrl_h264_scaling_matrix.V4l2CtrlH264ScalingMatrix.{V4l2CtrlH264ScalingMatrix}
use Rattle.frame_requests.specs.declared.layouts.scaling_matrix.ScalingMatrixLayout.{ScalingMatrixLayout}

-- each member is that of its name
abbrev pub scaling_matrix_layout : V4l2CtrlH264ScalingMatrix → ScalingMatrixLayout
scaling_matrix_layout control = record {
  scaling_list_4x4 = control.scaling_list_4x4;
  scaling_list_8x8 = control.scaling_list_8x8;
}
