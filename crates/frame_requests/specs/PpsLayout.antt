-- struct v4l2_ctrl_h264_pps (linux/v4l2-controls.h).
use Rattle.param_set_controls.specs.declared.v4l2_ctrl_h264_pps.V4l2CtrlH264Pps.{V4l2CtrlH264Pps}
use Rattle.param_set_controls.specs.PpsForm.{pps_flags, weighted_bipred_number}
use Rattle.frame_requests.specs.declared.layouts.pps.PpsLayout.{PpsLayout}

-- each member is that of its name, as a number
abbrev pub pps_layout : V4l2CtrlH264Pps → PpsLayout
pps_layout control = record {
  pic_parameter_set_id = control.pic_parameter_set_id;
  seq_parameter_set_id = control.seq_parameter_set_id;
  num_slice_groups_minus1 = control.num_slice_groups_minus1;
  num_ref_idx_l0_default_active_minus1 = control.num_ref_idx_l0_default_active_minus1;
  num_ref_idx_l1_default_active_minus1 = control.num_ref_idx_l1_default_active_minus1;
  weighted_bipred_idc = weighted_bipred_number control.weighted_bipred_idc;
  pic_init_qp_minus26 = control.pic_init_qp_minus26;
  pic_init_qs_minus26 = control.pic_init_qs_minus26;
  chroma_qp_index_offset = control.chroma_qp_index_offset;
  second_chroma_qp_index_offset = control.second_chroma_qp_index_offset;
  flags = pps_flags control.flags;
}
