-- struct v4l2_ctrl_h264_slice_params (linux/v4l2-controls.h).
use Rattle.std.specs.Prelude.{ℕ, List, Option, None, Some, map, slice_get}
use Rattle.std.specs.List.{range_with_len}
use Rattle.h264_controls.specs.declared.v4l2_ctrl_h264_slice_params.V4l2CtrlH264SliceParams.{V4l2CtrlH264SliceParams}
use Rattle.h264_controls.specs.SliceParamsForm.{slice_flags, slice_type_number}
use Rattle.frame_requests.specs.declared.layouts.slice_params.ReferenceLayout.{ReferenceLayout}
use Rattle.frame_requests.specs.declared.layouts.slice_params.SliceParamsLayout.{SliceParamsLayout}

-- struct v4l2_h264_reference: V4L2_H264_FRAME_REF and an index; zeros where there's none
abbrev pub reference_layout : Option (Option ℕ) → ReferenceLayout
reference_layout (Some (Some index)) = record { fields = 3; index = index }
reference_layout (Some None) = record { fields = 0; index = 0 }
reference_layout None = record { fields = 0; index = 0 }

-- the entry at a place of a list
abbrev pub reference_at : List (Option ℕ) → ℕ → ReferenceLayout
reference_at entries place = reference_layout (slice_get entries place)

-- a list of 32 entries, of which those past the active ones are zeros
abbrev pub ref_pic_list : List (Option ℕ) → List ReferenceLayout
ref_pic_list entries = map (reference_at entries) (range_with_len 0 32)

-- each member is that of its name, as a number
abbrev pub slice_params_layout : V4l2CtrlH264SliceParams → SliceParamsLayout
slice_params_layout control = record {
  header_bit_size = control.header_bit_size;
  first_mb_in_slice = control.first_mb_in_slice;
  slice_type = slice_type_number control.slice_type;
  colour_plane_id = control.colour_plane_id;
  redundant_pic_cnt = control.redundant_pic_cnt;
  cabac_init_idc = control.cabac_init_idc;
  slice_qp_delta = control.slice_qp_delta;
  slice_qs_delta = control.slice_qs_delta;
  disable_deblocking_filter_idc = control.disable_deblocking_filter_idc;
  slice_alpha_c0_offset_div2 = control.slice_alpha_c0_offset_div2;
  slice_beta_offset_div2 = control.slice_beta_offset_div2;
  num_ref_idx_l0_active_minus1 = control.num_ref_idx_l0_active_minus1;
  num_ref_idx_l1_active_minus1 = control.num_ref_idx_l1_active_minus1;
  reserved = 0;
  ref_pic_list0 = ref_pic_list control.ref_pic_list0;
  ref_pic_list1 = ref_pic_list control.ref_pic_list1;
  flags = slice_flags control.flags;
}
