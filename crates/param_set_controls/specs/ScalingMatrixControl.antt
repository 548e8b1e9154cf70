-- The control of the scaling lists of a picture (struct v4l2_ctrl_h264_scaling_matrix; ITU-T H.264, 7.4.2.2).
use Rattle.std.specs.Prelude.{◌++◌, replicate}
use Rattle.h264_types.specs.declared.param_sets.sps.Sps.{Sps}
use Rattle.h264_types.specs.declared.param_sets.pps.Pps.{Pps}
use Rattle.h264_types.specs.ScalingMatrix.{scaling_matrix}
use Rattle.param_set_controls.specs.declared.v4l2_ctrl_h264_scaling_matrix.V4l2CtrlH264ScalingMatrix.{V4l2CtrlH264ScalingMatrix}

-- the lists of the picture; those of 8x8 blocks of chroma, which only 4:4:4 has, are flat
abbrev pub scaling_matrix_control : Sps → Pps → V4l2CtrlH264ScalingMatrix
scaling_matrix_control sps pps = record {
  scaling_list_4x4 = (scaling_matrix sps pps).lists_4x4;
  scaling_list_8x8 = (scaling_matrix sps pps).lists_8x8 ++ replicate 4 (replicate 64 16);
}
