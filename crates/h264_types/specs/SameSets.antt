-- Sequence parameter sets that agree in each field that is read (ITU-T H.264, 7.4.1.2.1).
use Rattle.std.specs.Prelude.{◌==◌, Bool, true, false, ◌&&◌}
use Rattle.std.specs.Ordering.{int_eq}
use Rattle.std.specs.Bool.{beq}
use Rattle.std.specs.Option.{option_eq}
use lib.Pointwise.{pointwise}
use Rattle.h264_types.specs.declared.param_sets.sps.Sps.{Sps}
use Rattle.h264_types.specs.declared.param_sets.sps.ChromaFormat.{ChromaFormat}
use Rattle.h264_types.specs.declared.param_sets.sps.ChromaFormat.TheVariants.{Monochrome, Yuv420, Yuv422}
use Rattle.h264_types.specs.declared.param_sets.sps.PicOrderCntType.{PicOrderCntType}
use Rattle.h264_types.specs.declared.param_sets.sps.PicOrderCntType.TheVariants.{Zero, One, Two}

-- chroma_format_idc
abbrev pub same_format : ChromaFormat → ChromaFormat → Bool
same_format Monochrome Monochrome = true
same_format Yuv420 Yuv420 = true
same_format Yuv422 Yuv422 = true
same_format a b = false

-- pic_order_cnt_type
abbrev pub same_type : PicOrderCntType → PicOrderCntType → Bool
same_type Zero Zero = true
same_type One One = true
same_type Two Two = true
same_type a b = false

-- profile, level and format
abbrev pub same_profile : Sps → Sps → Bool
same_profile a b =
    a.profile_idc == b.profile_idc
    && pointwise beq a.constraint_set_flags b.constraint_set_flags
    && a.level_idc == b.level_idc
    && a.seq_parameter_set_id == b.seq_parameter_set_id
    && same_format a.chroma_format_idc b.chroma_format_idc
    && a.bit_depth_luma_minus8 == b.bit_depth_luma_minus8
    && a.bit_depth_chroma_minus8 == b.bit_depth_chroma_minus8
    && beq a.qpprime_y_zero_transform_bypass_flag b.qpprime_y_zero_transform_bypass_flag

-- scaling lists, their deltas as they were read
abbrev pub same_matrix : Sps → Sps → Bool
same_matrix a b =
    beq a.seq_scaling_matrix_present_flag b.seq_scaling_matrix_present_flag
    && pointwise (option_eq (pointwise int_eq)) a.scaling_lists b.scaling_lists

-- frame numbers and picture order counts
abbrev pub same_counting : Sps → Sps → Bool
same_counting a b =
    a.log2_max_frame_num_minus4 == b.log2_max_frame_num_minus4
    && same_type a.pic_order_cnt_type b.pic_order_cnt_type
    && a.log2_max_pic_order_cnt_lsb_minus4 == b.log2_max_pic_order_cnt_lsb_minus4
    && beq a.delta_pic_order_always_zero_flag b.delta_pic_order_always_zero_flag

-- the cycle of offsets
abbrev pub same_cycle : Sps → Sps → Bool
same_cycle a b =
    int_eq a.offset_for_non_ref_pic b.offset_for_non_ref_pic
    && int_eq a.offset_for_top_to_bottom_field b.offset_for_top_to_bottom_field
    && a.num_ref_frames_in_pic_order_cnt_cycle == b.num_ref_frames_in_pic_order_cnt_cycle
    && pointwise int_eq a.offset_for_ref_frame b.offset_for_ref_frame

-- frames
abbrev pub same_frames : Sps → Sps → Bool
same_frames a b =
    a.max_num_ref_frames == b.max_num_ref_frames
    && beq a.gaps_in_frame_num_value_allowed_flag b.gaps_in_frame_num_value_allowed_flag
    && a.pic_width_in_mbs_minus1 == b.pic_width_in_mbs_minus1
    && a.pic_height_in_map_units_minus1 == b.pic_height_in_map_units_minus1
    && beq a.direct_8x8_inference_flag b.direct_8x8_inference_flag

-- the sets agree
unfoldable pub same_sps : Sps → Sps → Bool
same_sps a b = same_profile a b && (same_matrix a b && (same_counting a b && (same_cycle a b && same_frames a b)))
