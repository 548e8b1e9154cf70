-- struct v4l2_ctrl_h264_sps (linux/v4l2-controls.h).
use Rattle.param_set_controls.specs.declared.v4l2_ctrl_h264_sps.V4l2CtrlH264Sps.{V4l2CtrlH264Sps}
use Rattle.param_set_controls.specs.SpsForm.{chroma_format_number, constraint_set_number, pic_order_cnt_type_number, sps_flags}
use Rattle.frame_requests.specs.declared.layouts.sps.SpsLayout.{SpsLayout}

-- each member is that of its name, as a number
abbrev pub sps_layout : V4l2CtrlH264Sps → SpsLayout
sps_layout control = record {
  profile_idc = control.profile_idc;
  constraint_set_flags = constraint_set_number control.constraint_set_flags;
  level_idc = control.level_idc;
  seq_parameter_set_id = control.seq_parameter_set_id;
  chroma_format_idc = chroma_format_number control.chroma_format_idc;
  bit_depth_luma_minus8 = control.bit_depth_luma_minus8;
  bit_depth_chroma_minus8 = control.bit_depth_chroma_minus8;
  log2_max_frame_num_minus4 = control.log2_max_frame_num_minus4;
  pic_order_cnt_type = pic_order_cnt_type_number control.pic_order_cnt_type;
  log2_max_pic_order_cnt_lsb_minus4 = control.log2_max_pic_order_cnt_lsb_minus4;
  max_num_ref_frames = control.max_num_ref_frames;
  num_ref_frames_in_pic_order_cnt_cycle = control.num_ref_frames_in_pic_order_cnt_cycle;
  offset_for_ref_frame = control.offset_for_ref_frame;
  offset_for_non_ref_pic = control.offset_for_non_ref_pic;
  offset_for_top_to_bottom_field = control.offset_for_top_to_bottom_field;
  pic_width_in_mbs_minus1 = control.pic_width_in_mbs_minus1;
  pic_height_in_map_units_minus1 = control.pic_height_in_map_units_minus1;
  flags = sps_flags control.flags;
}
