-- The control of a sequence parameter set (struct v4l2_ctrl_h264_sps; ITU-T H.264, 7.4.2.1.1).
use Rattle.std.specs.Prelude.{◌-◌, ◌++◌, true, false, ℤ, pos, List, length, replicate}
use Rattle.h264_types.specs.declared.param_sets.sps.Sps.{Sps}
use Rattle.param_set_controls.specs.declared.v4l2_ctrl_h264_sps.SpsFlags.{SpsFlags}
use Rattle.param_set_controls.specs.declared.v4l2_ctrl_h264_sps.V4l2CtrlH264Sps.{V4l2CtrlH264Sps}

-- the offsets of the cycle, and zeros past it
abbrev pub cycle : List ℤ → List ℤ
cycle offsets = offsets ++ replicate (255 - length offsets) (pos 0)

-- its flags: frames alone, no separate colour planes
abbrev pub sps_flags_of : Sps → SpsFlags
sps_flags_of sps = record {
  separate_colour_plane = false;
  qpprime_y_zero_transform_bypass = sps.qpprime_y_zero_transform_bypass_flag;
  delta_pic_order_always_zero = sps.delta_pic_order_always_zero_flag;
  gaps_in_frame_num_value_allowed = sps.gaps_in_frame_num_value_allowed_flag;
  frame_mbs_only = true;
  mb_adaptive_frame_field = false;
  direct_8x8_inference = sps.direct_8x8_inference_flag;
}

-- each member is the field of its name
abbrev pub sps_control : Sps → V4l2CtrlH264Sps
sps_control sps = record {
  profile_idc = sps.profile_idc;
  constraint_set_flags = sps.constraint_set_flags;
  level_idc = sps.level_idc;
  seq_parameter_set_id = sps.seq_parameter_set_id;
  chroma_format_idc = sps.chroma_format_idc;
  bit_depth_luma_minus8 = sps.bit_depth_luma_minus8;
  bit_depth_chroma_minus8 = sps.bit_depth_chroma_minus8;
  log2_max_frame_num_minus4 = sps.log2_max_frame_num_minus4;
  pic_order_cnt_type = sps.pic_order_cnt_type;
  log2_max_pic_order_cnt_lsb_minus4 = sps.log2_max_pic_order_cnt_lsb_minus4;
  max_num_ref_frames = sps.max_num_ref_frames;
  num_ref_frames_in_pic_order_cnt_cycle = sps.num_ref_frames_in_pic_order_cnt_cycle;
  offset_for_ref_frame = cycle sps.offset_for_ref_frame;
  offset_for_non_ref_pic = sps.offset_for_non_ref_pic;
  offset_for_top_to_bottom_field = sps.offset_for_top_to_bottom_field;
  pic_width_in_mbs_minus1 = sps.pic_width_in_mbs_minus1;
  pic_height_in_map_units_minus1 = sps.pic_height_in_map_units_minus1;
  flags = sps_flags_of sps;
}
