-- Sequence parameter sets: the table of their syntax (ITU-T H.264, 7.3.2.1.1) and what its fields say (7.4.2.1.1).
use Rattle.std.specs.Prelude.{◌≡◌, ℕ, ◌==◌, Bool, true, false, List, [], ◌∷◌, ◌++◌, length, map, replicate, Option, Some, None, ℤ, pos, nat_lt, nat_le, ◌&&◌, ◌||◌, if◌then◌else◌, nat_abs}
use Rattle.std.specs.List.{list_any}
use Rattle.param_sets.specs.declared.fault.SetFault.{SetFault}
use Rattle.param_sets.specs.declared.fault.SetFault.TheVariants.{Range, Profile, Chroma444, Interlaced, RefFrames}
use Rattle.param_sets.specs.declared.fault.SetField.TheVariants as ranges
use Rattle.h264_types.specs.declared.param_sets.sps.Sps.{Sps}
use Rattle.h264_types.specs.declared.param_sets.sps.ChromaFormat.{ChromaFormat}
use Rattle.h264_types.specs.declared.param_sets.sps.ChromaFormat.TheVariants.{Monochrome, Yuv420, Yuv422}
use Rattle.h264_types.specs.declared.param_sets.sps.PicOrderCntType.{PicOrderCntType}
use Rattle.h264_types.specs.declared.param_sets.sps.PicOrderCntType.TheVariants.{Zero, One, Two}
use Rattle.expgolomb.specs.Grammar.{Row}
use Rattle.param_sets.specs.Rows.{u, u_of, ue, ue_of, se_any}
use Rattle.expgolomb.specs.Rows.{within, always, flag_of}
use Rattle.h264_types.specs.Profiles.{is_high}
use Rattle.h264_types.specs.CountTypes.{is_type_zero, is_type_one}
use Rattle.param_sets.specs.Scaling.{ListField, take_list, list_rows}

-- the fields, in the standard's names
pub data SpsField : Type 0 where
  ProfileIdc : SpsField
  ConstraintSetFlag : SpsField
  ReservedZero2Bits : SpsField
  LevelIdc : SpsField
  SeqParameterSetId : SpsField
  ChromaFormatIdc : SpsField
  BitDepthLumaMinus8 : SpsField
  BitDepthChromaMinus8 : SpsField
  QpprimeYZeroTransformBypassFlag : SpsField
  SeqScalingMatrixPresentFlag : SpsField
  ScalingList : ListField → SpsField
  Log2MaxFrameNumMinus4 : SpsField
  PicOrderCntTypeCode : SpsField
  Log2MaxPicOrderCntLsbMinus4 : SpsField
  DeltaPicOrderAlwaysZeroFlag : SpsField
  OffsetForNonRefPic : SpsField
  OffsetForTopToBottomField : SpsField
  NumRefFramesInPicOrderCntCycle : SpsField
  OffsetForRefFrame : SpsField
  MaxNumRefFrames : SpsField
  GapsInFrameNumValueAllowedFlag : SpsField
  PicWidthInMbsMinus1 : SpsField
  PicHeightInMapUnitsMinus1 : SpsField
  FrameMbsOnlyFlag : SpsField
  Direct8x8InferenceFlag : SpsField

-- before the first field: what is inferred of fields that stay absent
abbrev pub no_sps : Sps
no_sps = record {
  profile_idc = 0;
  constraint_set_flags = [];
  level_idc = 0;
  seq_parameter_set_id = 0;
  chroma_format_idc = Yuv420;
  bit_depth_luma_minus8 = 0;
  bit_depth_chroma_minus8 = 0;
  qpprime_y_zero_transform_bypass_flag = false;
  seq_scaling_matrix_present_flag = false;
  scaling_lists = [];
  log2_max_frame_num_minus4 = 0;
  pic_order_cnt_type = Zero;
  log2_max_pic_order_cnt_lsb_minus4 = 0;
  delta_pic_order_always_zero_flag = false;
  offset_for_non_ref_pic = pos 0;
  offset_for_top_to_bottom_field = pos 0;
  num_ref_frames_in_pic_order_cnt_cycle = 0;
  offset_for_ref_frame = [];
  max_num_ref_frames = 0;
  gaps_in_frame_num_value_allowed_flag = false;
  pic_width_in_mbs_minus1 = 0;
  pic_height_in_map_units_minus1 = 0;
  direct_8x8_inference_flag = false;
}

abbrev pub chroma_format : ℕ → ChromaFormat
chroma_format idc = if idc == 0 then Monochrome else if idc == 1 then Yuv420 else Yuv422

abbrev pub count_type : ℕ → PicOrderCntType
count_type code = if code == 0 then Zero else if code == 1 then One else Two

-- what a field's value says
abbrev pub take : SpsField → ℤ → Sps → Sps
take ProfileIdc v s = record s { profile_idc = nat_abs v }
take ConstraintSetFlag v s = record s { constraint_set_flags = s.constraint_set_flags ++ flag_of v ∷ [] }
take ReservedZero2Bits v s = s
take LevelIdc v s = record s { level_idc = nat_abs v }
take SeqParameterSetId v s = record s { seq_parameter_set_id = nat_abs v }
take ChromaFormatIdc v s = record s { chroma_format_idc = chroma_format (nat_abs v) }
take BitDepthLumaMinus8 v s = record s { bit_depth_luma_minus8 = nat_abs v }
take BitDepthChromaMinus8 v s = record s { bit_depth_chroma_minus8 = nat_abs v }
take QpprimeYZeroTransformBypassFlag v s = record s { qpprime_y_zero_transform_bypass_flag = flag_of v }
take SeqScalingMatrixPresentFlag v s = record s { seq_scaling_matrix_present_flag = flag_of v }
take (ScalingList field) v s = record s { scaling_lists = take_list field v s.scaling_lists }
take Log2MaxFrameNumMinus4 v s = record s { log2_max_frame_num_minus4 = nat_abs v }
take PicOrderCntTypeCode v s = record s { pic_order_cnt_type = count_type (nat_abs v) }
take Log2MaxPicOrderCntLsbMinus4 v s = record s { log2_max_pic_order_cnt_lsb_minus4 = nat_abs v }
take DeltaPicOrderAlwaysZeroFlag v s = record s { delta_pic_order_always_zero_flag = flag_of v }
take OffsetForNonRefPic v s = record s { offset_for_non_ref_pic = v }
take OffsetForTopToBottomField v s = record s { offset_for_top_to_bottom_field = v }
take NumRefFramesInPicOrderCntCycle v s = record s { num_ref_frames_in_pic_order_cnt_cycle = nat_abs v }
take OffsetForRefFrame v s = record s { offset_for_ref_frame = s.offset_for_ref_frame ++ v ∷ [] }
take MaxNumRefFrames v s = record s { max_num_ref_frames = nat_abs v }
take GapsInFrameNumValueAllowedFlag v s = record s { gaps_in_frame_num_value_allowed_flag = flag_of v }
take PicWidthInMbsMinus1 v s = record s { pic_width_in_mbs_minus1 = nat_abs v }
take PicHeightInMapUnitsMinus1 v s = record s { pic_height_in_map_units_minus1 = nat_abs v }
take FrameMbsOnlyFlag v s = s
take Direct8x8InferenceFlag v s = record s { direct_8x8_inference_flag = flag_of v }

abbrev pub SpsRow : Type 0
SpsRow = Row SpsField Sps SetFault

-- Baseline, Main and the high profiles without 4:4:4
abbrev pub profile_range : ℤ → Option SetFault
profile_range v = if list_any (λ profile. profile == nat_abs v) (66 ∷ 77 ∷ 100 ∷ 110 ∷ 122 ∷ []) then None else Some Profile

abbrev pub flag_row : SpsRow
flag_row = u ConstraintSetFlag 1 always

abbrev pub profile_row : SpsRow
profile_row = u_of ProfileIdc 8 always profile_range

-- constraint_set0_flag to constraint_set5_flag
unfoldable pub constraint_rows : List SpsRow
constraint_rows = replicate 6 flag_row

-- two bits that are not tested, the level, and the number of the set
abbrev pub level_rows : List SpsRow
level_rows =
    u ReservedZero2Bits 2 always
    ∷ u LevelIdc 8 always
    ∷ ue SeqParameterSetId always 31 (Range ranges.SpsId)
    ∷ []

-- what each set begins with
abbrev pub beginning_rows : List SpsRow
beginning_rows = profile_row ∷ (constraint_rows ++ level_rows)

abbrev pub has_matrix : Sps → Bool
has_matrix s = is_high s && s.seq_scaling_matrix_present_flag

abbrev pub chroma_range : ℤ → Option SetFault
chroma_range v =
    if nat_le (nat_abs v) 2 then None else if nat_abs v == 3 then Some Chroma444 else Some (Range ranges.ChromaFormat)

-- the eight scaling lists
unfoldable pub scaling_rows : List SpsRow
scaling_rows = map (within ScalingList (λ s. s.scaling_lists) has_matrix) (list_rows 0 8)

abbrev pub high_fields : List SpsRow
high_fields =
    ue_of ChromaFormatIdc is_high chroma_range (Range ranges.ChromaFormat)
    ∷ ue BitDepthLumaMinus8 is_high 6 (Range ranges.BitDepth)
    ∷ ue BitDepthChromaMinus8 is_high 6 (Range ranges.BitDepth)
    ∷ u QpprimeYZeroTransformBypassFlag 1 is_high
    ∷ u SeqScalingMatrixPresentFlag 1 is_high
    ∷ []

abbrev pub high_rows : List SpsRow
high_rows = high_fields ++ scaling_rows

-- an offset of the cycle that isn't read yet
abbrev pub has_offset : Sps → Bool
has_offset s = is_type_one s && nat_lt (length s.offset_for_ref_frame) s.num_ref_frames_in_pic_order_cnt_cycle

-- the set with these offsets
abbrev pub with_offsets : Sps → List ℤ → Sps
with_offsets s offsets = record s { offset_for_ref_frame = offsets }

-- the set has a cycle of this length
abbrev pub IsCycleOf : Sps → ℕ → Type 0
IsCycleOf s length = (s.pic_order_cnt_type ≡ One) × (s.num_ref_frames_in_pic_order_cnt_cycle ≡ length)

abbrev pub offset_row : SpsRow
offset_row = se_any OffsetForRefFrame has_offset (Range ranges.Offset)

unfoldable pub offset_rows : List SpsRow
offset_rows = replicate 255 offset_row

-- how frame numbers and counts are coded
abbrev pub count_rows : List SpsRow
count_rows =
    ue Log2MaxFrameNumMinus4 always 12 (Range ranges.FrameNumBits)
    ∷ ue PicOrderCntTypeCode always 2 (Range ranges.CountType)
    ∷ []

abbrev pub type_zero_rows : List SpsRow
type_zero_rows = ue Log2MaxPicOrderCntLsbMinus4 is_type_zero 12 (Range ranges.CountBits) ∷ []

abbrev pub type_one_rows : List SpsRow
type_one_rows =
    u DeltaPicOrderAlwaysZeroFlag 1 is_type_one
    ∷ se_any OffsetForNonRefPic is_type_one (Range ranges.Offset)
    ∷ se_any OffsetForTopToBottomField is_type_one (Range ranges.Offset)
    ∷ ue NumRefFramesInPicOrderCntCycle is_type_one 255 (Range ranges.CycleLength)
    ∷ []

-- what the types of counts have
abbrev pub typed_rows : List SpsRow
typed_rows = type_zero_rows ++ (type_one_rows ++ offset_rows)

-- the frames that are kept
abbrev pub frame_rows : List SpsRow
frame_rows =
    ue MaxNumRefFrames always 16 RefFrames
    ∷ u GapsInFrameNumValueAllowedFlag 1 always
    ∷ []

abbrev pub frames_only : ℤ → Option SetFault
frames_only v = if flag_of v then None else Some Interlaced

-- the size of a frame
abbrev pub size_rows : List SpsRow
size_rows =
    ue PicWidthInMbsMinus1 always 65535 (Range ranges.Width)
    ∷ ue PicHeightInMapUnitsMinus1 always 65535 (Range ranges.Height)
    ∷ u_of FrameMbsOnlyFlag 1 always frames_only
    ∷ u Direct8x8InferenceFlag 1 always
    ∷ []

-- the whole table, as far as it is read: what follows is cropping and VUI
unfoldable pub sps_rows : List SpsRow
sps_rows =
    beginning_rows ++ (high_rows ++ (count_rows ++ (typed_rows ++ (frame_rows ++ size_rows))))
