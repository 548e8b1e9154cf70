-- The codes of a sequence parameter set up to frame_cropping_flag, by its values (ITU-T H.264, 7.3.2.1.1).
use Rattle.std.specs.Prelude.{ℤ, List, [], ◌∷◌, ◌++◌, length, replicate, Option, None, Some, if◌then◌else◌}
use Rattle.std.specs.List.{flat_map}
use Rattle.h264_types.specs.Profiles.{is_high}
use Rattle.h264_types.specs.declared.param_sets.sps.Sps.{Sps}
use Rattle.h264_types.specs.declared.param_sets.sps.PicOrderCntType.{PicOrderCntType}
use Rattle.h264_types.specs.declared.param_sets.sps.PicOrderCntType.TheVariants.{Zero, One, Two}
use Rattle.param_sets.specs.declared.cropping.codes.Code.{Code}
use Rattle.param_sets.specs.declared.cropping.codes.Code.TheVariants.{Beginning, Flag, Unsigned, Signed}

-- scaling_list_present_flag, and the deltas where it is 1
abbrev pub list_codes : Option (List ℤ) → List Code
list_codes None = Flag ∷ []
list_codes (Some deltas) = Flag ∷ replicate (length deltas) Signed

-- chroma_format_idc, the two depths, qpprime_y_zero_transform_bypass_flag, seq_scaling_matrix_present_flag and the lists
abbrev pub high_codes : Sps → List Code
high_codes sps = if is_high sps then Unsigned ∷ Unsigned ∷ Unsigned ∷ Flag ∷ Flag ∷ flat_map list_codes sps.scaling_lists else []

-- by pic_order_cnt_type: log2_max_pic_order_cnt_lsb_minus4, or the flag and the offsets, or nothing
abbrev pub codes_of_type : PicOrderCntType → List ℤ → List Code
codes_of_type Zero offsets = Unsigned ∷ []
codes_of_type One offsets = Flag ∷ Signed ∷ Signed ∷ Unsigned ∷ replicate (length offsets) Signed
codes_of_type Two offsets = []

-- what the type of picture order counts has
abbrev pub count_codes : Sps → List Code
count_codes sps = codes_of_type sps.pic_order_cnt_type sps.offset_for_ref_frame

-- max_num_ref_frames, gaps_in_frame_num_value_allowed_flag, the size, frame_mbs_only_flag and direct_8x8_inference_flag
abbrev pub frame_codes : List Code
frame_codes = Unsigned ∷ Flag ∷ Unsigned ∷ Unsigned ∷ Flag ∷ Flag ∷ []

-- all that stands before frame_cropping_flag in a NAL unit of the set
abbrev pub set_codes : Sps → List Code
set_codes sps = Beginning ∷ Unsigned ∷ (high_codes sps ++ (Unsigned ∷ Unsigned ∷ (count_codes sps ++ frame_codes)))
