-- V4L2_CID_STATELESS_H264_SLICE_PARAMS in the digest form.
use Rattle.std.specs.Prelude.{ℕ, ◌+◌, List, ◌++◌, Option, None, Some}
use Rattle.std.specs.List.{flat_map}
use Rattle.h264_types.specs.declared.slice_headers.slice_types.SliceType.{SliceType}
use Rattle.h264_types.specs.declared.slice_headers.slice_types.SliceType.TheVariants.{P, B, I, Sp, Si}
use Rattle.h264_controls.specs.declared.v4l2_ctrl_h264_slice_params.V4l2CtrlH264SliceParams.{V4l2CtrlH264SliceParams}
use Rattle.h264_controls.specs.declared.v4l2_ctrl_h264_slice_params.SliceFlags.{SliceFlags}
use Rattle.param_set_controls.specs.Words.{u8, u32, s8, flag, padded}

-- slice_type as a number (table 7-6)
abbrev pub slice_type_number : SliceType → ℕ
slice_type_number P = 0
slice_type_number B = 1
slice_type_number I = 2
slice_type_number Sp = 3
slice_type_number Si = 4

-- struct v4l2_h264_reference: fields and index, V4L2_H264_FRAME_REF for a frame, zeros for a missing entry
abbrev pub reference_form : Option ℕ → List ℕ
reference_form None = u8 0 ++ u8 0
reference_form (Some index) = u8 3 ++ u8 index

-- a list of 32 entries, of which those past the active ones are zeros
unfoldable pub list_form : List (Option ℕ) → List ℕ
list_form entries = padded 64 (flat_map reference_form entries)

-- V4L2_H264_SLICE_FLAG_*
abbrev pub slice_flags : SliceFlags → ℕ
slice_flags flags = flag 1 flags.direct_spatial_mv_pred + flag 2 flags.sp_for_switch

-- its members in order
unfoldable pub slice_params_form : V4l2CtrlH264SliceParams → List ℕ
slice_params_form params =
    u32 params.header_bit_size
    ++ u32 params.first_mb_in_slice
    ++ u8 (slice_type_number params.slice_type)
    ++ u8 params.colour_plane_id
    ++ u8 params.redundant_pic_cnt
    ++ u8 params.cabac_init_idc
    ++ s8 params.slice_qp_delta
    ++ s8 params.slice_qs_delta
    ++ u8 params.disable_deblocking_filter_idc
    ++ s8 params.slice_alpha_c0_offset_div2
    ++ s8 params.slice_beta_offset_div2
    ++ u8 params.num_ref_idx_l0_active_minus1
    ++ u8 params.num_ref_idx_l1_active_minus1
    ++ list_form params.ref_pic_list0
    ++ list_form params.ref_pic_list1
    ++ u32 (slice_flags params.flags)
