-- V4L2_CID_STATELESS_H264_SPS in the digest form.
use Rattle.std.specs.Prelude.{ℕ, ◌+◌, Bool, false, List, ◌++◌, slice_index_or}
use Rattle.std.specs.List.{flat_map}
use Rattle.h264_types.specs.declared.param_sets.sps.ChromaFormat.{ChromaFormat}
use Rattle.h264_types.specs.declared.param_sets.sps.ChromaFormat.TheVariants.{Monochrome, Yuv420, Yuv422}
use Rattle.h264_types.specs.declared.param_sets.sps.PicOrderCntType.{PicOrderCntType}
use Rattle.h264_types.specs.declared.param_sets.sps.PicOrderCntType.TheVariants.{Zero, One, Two}
use Rattle.param_set_controls.specs.declared.v4l2_ctrl_h264_sps.V4l2CtrlH264Sps.{V4l2CtrlH264Sps}
use Rattle.param_set_controls.specs.declared.v4l2_ctrl_h264_sps.SpsFlags.{SpsFlags}
use Rattle.param_set_controls.specs.Words.{u8, u16, u32, s32, flag}

-- constraint_set_flags as a number: bit i is flag i
abbrev pub constraint_set_number : List Bool → ℕ
constraint_set_number flags =
    flag 1 (slice_index_or flags 0 false)
    + flag 2 (slice_index_or flags 1 false)
    + flag 4 (slice_index_or flags 2 false)
    + flag 8 (slice_index_or flags 3 false)
    + flag 16 (slice_index_or flags 4 false)
    + flag 32 (slice_index_or flags 5 false)

-- chroma_format_idc as a number
abbrev pub chroma_format_number : ChromaFormat → ℕ
chroma_format_number Monochrome = 0
chroma_format_number Yuv420 = 1
chroma_format_number Yuv422 = 2

-- pic_order_cnt_type as a number
abbrev pub pic_order_cnt_type_number : PicOrderCntType → ℕ
pic_order_cnt_type_number Zero = 0
pic_order_cnt_type_number One = 1
pic_order_cnt_type_number Two = 2

-- V4L2_H264_SPS_FLAG_*
abbrev pub sps_flags : SpsFlags → ℕ
sps_flags flags =
    flag 1 flags.separate_colour_plane
    + flag 2 flags.qpprime_y_zero_transform_bypass
    + flag 4 flags.delta_pic_order_always_zero
    + flag 8 flags.gaps_in_frame_num_value_allowed
    + flag 16 flags.frame_mbs_only
    + flag 32 flags.mb_adaptive_frame_field
    + flag 64 flags.direct_8x8_inference

-- its members in order
unfoldable pub sps_form : V4l2CtrlH264Sps → List ℕ
sps_form sps =
    u8 sps.profile_idc
    ++ u8 (constraint_set_number sps.constraint_set_flags)
    ++ u8 sps.level_idc
    ++ u8 sps.seq_parameter_set_id
    ++ u8 (chroma_format_number sps.chroma_format_idc)
    ++ u8 sps.bit_depth_luma_minus8
    ++ u8 sps.bit_depth_chroma_minus8
    ++ u8 sps.log2_max_frame_num_minus4
    ++ u8 (pic_order_cnt_type_number sps.pic_order_cnt_type)
    ++ u8 sps.log2_max_pic_order_cnt_lsb_minus4
    ++ u8 sps.max_num_ref_frames
    ++ u8 sps.num_ref_frames_in_pic_order_cnt_cycle
    ++ flat_map s32 sps.offset_for_ref_frame
    ++ s32 sps.offset_for_non_ref_pic
    ++ s32 sps.offset_for_top_to_bottom_field
    ++ u16 sps.pic_width_in_mbs_minus1
    ++ u16 sps.pic_height_in_map_units_minus1
    ++ u32 (sps_flags sps.flags)
