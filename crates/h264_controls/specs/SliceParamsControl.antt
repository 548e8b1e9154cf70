-- The control of a slice (struct v4l2_ctrl_h264_slice_params; ITU-T H.264, 7.4.3).
use Rattle.std.specs.Prelude.{ℕ, false, pos, List, Option}
use Rattle.h264_types.specs.declared.slice_headers.slice_headers.SliceHeader.{SliceHeader}
use Rattle.h264_controls.specs.declared.v4l2_ctrl_h264_slice_params.V4l2CtrlH264SliceParams.{V4l2CtrlH264SliceParams}

-- each member is the field of its name; there are no separate colour planes, redundant pictures or switching slices
abbrev pub slice_params_control : SliceHeader → List (Option ℕ) → List (Option ℕ) → V4l2CtrlH264SliceParams
slice_params_control header list_0 list_1 = record {
  header_bit_size = header.header_bit_size;
  first_mb_in_slice = header.first_mb_in_slice;
  slice_type = header.slice_type;
  colour_plane_id = 0;
  redundant_pic_cnt = 0;
  cabac_init_idc = header.cabac_init_idc;
  slice_qp_delta = header.slice_qp_delta;
  slice_qs_delta = pos 0;
  disable_deblocking_filter_idc = header.disable_deblocking_filter_idc;
  slice_alpha_c0_offset_div2 = header.slice_alpha_c0_offset_div2;
  slice_beta_offset_div2 = header.slice_beta_offset_div2;
  num_ref_idx_l0_active_minus1 = header.num_ref_idx_l0_active_minus1;
  num_ref_idx_l1_active_minus1 = header.num_ref_idx_l1_active_minus1;
  ref_pic_list0 = list_0;
  ref_pic_list1 = list_1;
  flags = record { direct_spatial_mv_pred = header.direct_spatial_mv_pred_flag; sp_for_switch = false };
}
