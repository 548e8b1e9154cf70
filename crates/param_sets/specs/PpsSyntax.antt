-- Picture parameter sets: the table of their syntax (ITU-T H.264, 7.3.2.2) and what its fields say (7.4.2.2).
use Rattle.std.specs.Prelude.{ℕ, ◌==◌, Bool, false, List, [], ◌∷◌, ◌++◌, map, ℤ, pos, negsuc, ◌&&◌, if◌then◌else◌, nat_abs}
use Rattle.param_sets.specs.declared.fault.SetFault.{SetFault}
use Rattle.param_sets.specs.declared.fault.SetFault.TheVariants.{Cut, Range, SliceGroups}
use Rattle.param_sets.specs.declared.fault.SetField.TheVariants as ranges
use Rattle.h264_types.specs.declared.param_sets.pps.Pps.{Pps}
use Rattle.h264_types.specs.declared.param_sets.pps.WeightedBipred.{WeightedBipred}
use Rattle.h264_types.specs.declared.param_sets.pps.WeightedBipred.TheVariants.{Default, Explicit, Implicit}
use Rattle.expgolomb.specs.Grammar.{MoreData, Row}
use Rattle.param_sets.specs.Rows.{u, u_of, ue, se}
use Rattle.expgolomb.specs.Rows.{within, always, flag_of}
use Rattle.expgolomb.specs.Ranges.{any, at_most}
use Rattle.param_sets.specs.Scaling.{ListField, take_list, list_rows}

-- the fields, in the standard's names; MoreRbspData is whether more_rbsp_data() holds, and has no bits
pub data PpsField : Type 0 where
  PicParameterSetId : PpsField
  SeqParameterSetId : PpsField
  EntropyCodingModeFlag : PpsField
  BottomFieldPicOrderInFramePresentFlag : PpsField
  NumSliceGroupsMinus1 : PpsField
  NumRefIdxL0DefaultActiveMinus1 : PpsField
  NumRefIdxL1DefaultActiveMinus1 : PpsField
  WeightedPredFlag : PpsField
  WeightedBipredIdc : PpsField
  PicInitQpMinus26 : PpsField
  PicInitQsMinus26 : PpsField
  ChromaQpIndexOffset : PpsField
  DeblockingFilterControlPresentFlag : PpsField
  ConstrainedIntraPredFlag : PpsField
  RedundantPicCntPresentFlag : PpsField
  MoreRbspData : PpsField
  Transform8x8ModeFlag : PpsField
  PicScalingMatrixPresentFlag : PpsField
  ScalingList : ListField → PpsField
  SecondChromaQpIndexOffset : PpsField

-- the fields so far, and whether more_rbsp_data() holds after the first part
pub record PpsSoFar : Type 0 where
  pub pps : Pps
  pub more_data : Bool

abbrev pub so_far : Bool → Pps → PpsSoFar
so_far more pps = record { pps = pps; more_data = more }

-- before the first field: what is inferred of fields that stay absent
abbrev pub no_pps : PpsSoFar
no_pps = record {
  pps = record {
    pic_parameter_set_id = 0;
    seq_parameter_set_id = 0;
    entropy_coding_mode_flag = false;
    bottom_field_pic_order_in_frame_present_flag = false;
    num_ref_idx_l0_default_active_minus1 = 0;
    num_ref_idx_l1_default_active_minus1 = 0;
    weighted_pred_flag = false;
    weighted_bipred_idc = Default;
    pic_init_qp_minus26 = pos 0;
    pic_init_qs_minus26 = pos 0;
    chroma_qp_index_offset = pos 0;
    deblocking_filter_control_present_flag = false;
    constrained_intra_pred_flag = false;
    redundant_pic_cnt_present_flag = false;
    transform_8x8_mode_flag = false;
    pic_scaling_matrix_present_flag = false;
    scaling_lists = [];
    second_chroma_qp_index_offset = pos 0;
  };
  more_data = false;
}

abbrev pub bipred : ℕ → WeightedBipred
bipred idc = if idc == 0 then Default else if idc == 1 then Explicit else Implicit

-- What a field's value says. The second chroma offset is inferred to be the first.
abbrev pub take_field : PpsField → ℤ → Pps → Pps
take_field PicParameterSetId v s = record s { pic_parameter_set_id = nat_abs v }
take_field SeqParameterSetId v s = record s { seq_parameter_set_id = nat_abs v }
take_field EntropyCodingModeFlag v s = record s { entropy_coding_mode_flag = flag_of v }
take_field BottomFieldPicOrderInFramePresentFlag v s = record s { bottom_field_pic_order_in_frame_present_flag = flag_of v }
take_field NumSliceGroupsMinus1 v s = s
take_field NumRefIdxL0DefaultActiveMinus1 v s = record s { num_ref_idx_l0_default_active_minus1 = nat_abs v }
take_field NumRefIdxL1DefaultActiveMinus1 v s = record s { num_ref_idx_l1_default_active_minus1 = nat_abs v }
take_field WeightedPredFlag v s = record s { weighted_pred_flag = flag_of v }
take_field WeightedBipredIdc v s = record s { weighted_bipred_idc = bipred (nat_abs v) }
take_field PicInitQpMinus26 v s = record s { pic_init_qp_minus26 = v }
take_field PicInitQsMinus26 v s = record s { pic_init_qs_minus26 = v }
take_field ChromaQpIndexOffset v s = record s { chroma_qp_index_offset = v; second_chroma_qp_index_offset = v }
take_field DeblockingFilterControlPresentFlag v s = record s { deblocking_filter_control_present_flag = flag_of v }
take_field ConstrainedIntraPredFlag v s = record s { constrained_intra_pred_flag = flag_of v }
take_field RedundantPicCntPresentFlag v s = record s { redundant_pic_cnt_present_flag = flag_of v }
take_field MoreRbspData v s = s
take_field Transform8x8ModeFlag v s = record s { transform_8x8_mode_flag = flag_of v }
take_field PicScalingMatrixPresentFlag v s = record s { pic_scaling_matrix_present_flag = flag_of v }
take_field (ScalingList field) v s = record s { scaling_lists = take_list field v s.scaling_lists }
take_field SecondChromaQpIndexOffset v s = record s { second_chroma_qp_index_offset = v }

abbrev pub take : PpsField → ℤ → PpsSoFar → PpsSoFar
take MoreRbspData v s = record s { more_data = flag_of v }
take field v s = record s { pps = take_field field v s.pps }

abbrev pub PpsRow : Type 0
PpsRow = Row PpsField PpsSoFar SetFault

-- the sets that are named
abbrev pub id_row : PpsRow
id_row = ue PicParameterSetId always 255 (Range ranges.PpsId)

abbrev pub id_rows : List PpsRow
id_rows =
    id_row
    ∷ ue SeqParameterSetId always 31 (Range ranges.SpsId)
    ∷ []

-- entropy coding, counts of bottom fields, and one slice group
abbrev pub coding_rows : List PpsRow
coding_rows =
    u EntropyCodingModeFlag 1 always
    ∷ u BottomFieldPicOrderInFramePresentFlag 1 always
    ∷ ue NumSliceGroupsMinus1 always 0 SliceGroups
    ∷ []

-- how pictures are predicted
abbrev pub prediction_rows : List PpsRow
prediction_rows =
    ue NumRefIdxL0DefaultActiveMinus1 always 31 (Range ranges.ActiveCount)
    ∷ ue NumRefIdxL1DefaultActiveMinus1 always 31 (Range ranges.ActiveCount)
    ∷ u WeightedPredFlag 1 always
    ∷ u_of WeightedBipredIdc 2 always (at_most 2 (Range ranges.BipredIdc))
    ∷ []

-- the quantisation that slices start from
abbrev pub quantisation_rows : List PpsRow
quantisation_rows =
    se PicInitQpMinus26 always (negsuc 61) (pos 25) (Range ranges.InitQp)
    ∷ se PicInitQsMinus26 always (negsuc 25) (pos 25) (Range ranges.InitQs)
    ∷ se ChromaQpIndexOffset always (negsuc 11) (pos 12) (Range ranges.ChromaOffset)
    ∷ []

-- what slices have
abbrev pub slice_rows : List PpsRow
slice_rows =
    u DeblockingFilterControlPresentFlag 1 always
    ∷ u ConstrainedIntraPredFlag 1 always
    ∷ u RedundantPicCntPresentFlag 1 always
    ∷ []

abbrev pub has_more : PpsSoFar → Bool
has_more s = s.more_data

-- whether more_rbsp_data() holds, and what there is then before the scaling lists
abbrev pub transform_rows : List PpsRow
transform_rows =
    record { field = MoreRbspData; code = MoreData; present = always; cut = Cut; long = Cut; wrong = λ s. any }
    ∷ u Transform8x8ModeFlag 1 has_more
    ∷ u PicScalingMatrixPresentFlag 1 has_more
    ∷ []

abbrev pub has_matrix : PpsSoFar → Bool
has_matrix s = has_more s && s.pps.pic_scaling_matrix_present_flag

-- the lists of 64 entries are there only with 8x8 transforms
abbrev pub has_large_lists : PpsSoFar → Bool
has_large_lists s = has_matrix s && s.pps.transform_8x8_mode_flag

unfoldable pub small_list_rows : List PpsRow
small_list_rows = map (within ScalingList (λ s. s.pps.scaling_lists) has_matrix) (list_rows 0 6)

unfoldable pub large_list_rows : List PpsRow
large_list_rows = map (within ScalingList (λ s. s.pps.scaling_lists) has_large_lists) (list_rows 6 2)

-- the scaling lists
abbrev pub pic_list_rows : List PpsRow
pic_list_rows = small_list_rows ++ large_list_rows

-- how many lists a set with lists has
abbrev pub list_count : Pps → ℕ
list_count s = if s.transform_8x8_mode_flag then 8 else 6

abbrev pub second_offset_rows : List PpsRow
second_offset_rows = se SecondChromaQpIndexOffset has_more (negsuc 11) (pos 12) (Range ranges.ChromaOffset) ∷ []

-- what stands after the first part
abbrev pub more_rows : List PpsRow
more_rows = transform_rows ++ (pic_list_rows ++ second_offset_rows)

-- the whole table
unfoldable pub pps_rows : List PpsRow
pps_rows = id_rows ++ (coding_rows ++ (prediction_rows ++ (quantisation_rows ++ (slice_rows ++ more_rows))))
