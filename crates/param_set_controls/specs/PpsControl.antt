-- The control of a picture parameter set (struct v4l2_ctrl_h264_pps; ITU-T H.264, 7.4.2.2).
use Rattle.std.specs.Prelude.{◌||◌}
use Rattle.h264_types.specs.declared.param_sets.sps.Sps.{Sps}
use Rattle.h264_types.specs.declared.param_sets.pps.Pps.{Pps}
use Rattle.param_set_controls.specs.declared.v4l2_ctrl_h264_pps.PpsFlags.{PpsFlags}
use Rattle.param_set_controls.specs.declared.v4l2_ctrl_h264_pps.V4l2CtrlH264Pps.{V4l2CtrlH264Pps}

-- its flags; scaling lists may come from either set
abbrev pub pps_flags_of : Sps → Pps → PpsFlags
pps_flags_of sps pps = record {
  entropy_coding_mode = pps.entropy_coding_mode_flag;
  bottom_field_pic_order_in_frame_present = pps.bottom_field_pic_order_in_frame_present_flag;
  weighted_pred = pps.weighted_pred_flag;
  deblocking_filter_control_present = pps.deblocking_filter_control_present_flag;
  constrained_intra_pred = pps.constrained_intra_pred_flag;
  redundant_pic_cnt_present = pps.redundant_pic_cnt_present_flag;
  transform_8x8_mode = pps.transform_8x8_mode_flag;
  scaling_matrix_present = sps.seq_scaling_matrix_present_flag || pps.pic_scaling_matrix_present_flag;
}

-- each member is the field of its name; there is one slice group
abbrev pub pps_control : Sps → Pps → V4l2CtrlH264Pps
pps_control sps pps = record {
  pic_parameter_set_id = pps.pic_parameter_set_id;
  seq_parameter_set_id = pps.seq_parameter_set_id;
  num_slice_groups_minus1 = 0;
  num_ref_idx_l0_default_active_minus1 = pps.num_ref_idx_l0_default_active_minus1;
  num_ref_idx_l1_default_active_minus1 = pps.num_ref_idx_l1_default_active_minus1;
  weighted_bipred_idc = pps.weighted_bipred_idc;
  pic_init_qp_minus26 = pps.pic_init_qp_minus26;
  pic_init_qs_minus26 = pps.pic_init_qs_minus26;
  chroma_qp_index_offset = pps.chroma_qp_index_offset;
  second_chroma_qp_index_offset = pps.second_chroma_qp_index_offset;
  flags = pps_flags_of sps pps;
}
