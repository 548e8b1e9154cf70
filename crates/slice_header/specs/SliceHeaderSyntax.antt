-- Slice headers: the tables of their syntax (ITU-T H.264, 7.3.3) and what their fields say (7.4.3).
use Rattle.std.specs.Prelude.{ℕ, ◌+◌, ◌-◌, ◌*◌, ◌==◌, Bool, true, false, not, ◌&&◌, ◌||◌, [], ◌∷◌, ℤ, pos, negsuc, nat_abs, if◌then◌else◌, Option}
use Rattle.slice_header.specs.declared.fault.HeaderFault.{HeaderFault}
use Rattle.slice_header.specs.declared.fault.HeaderFault.TheVariants.{Value}
use Rattle.h264_types.specs.declared.slice_headers.slice_types.SliceType.{SliceType}
use Rattle.h264_types.specs.declared.slice_headers.slice_headers.SliceHeader.{SliceHeader}
use Rattle.slice_header.specs.declared.headers.HeaderFields.{HeaderFields}
use Rattle.slice_header.specs.declared.headers.PicturePart.{PicturePart}
use Rattle.slice_header.specs.declared.headers.ReferencePart.{ReferencePart}
use Rattle.slice_header.specs.declared.headers.EndingPart.{EndingPart}
use Rattle.h264_types.specs.declared.slice_headers.pred_weight_table.PredWeightTable.{PredWeightTable}
use Rattle.slice_header.specs.declared.prediction.Prediction.{Prediction}
use Rattle.slice_header.specs.declared.prediction.ActiveCounts.{ActiveCounts}
use Rattle.slice_header.specs.declared.coding.Coding.{Coding}
use Rattle.slice_header.specs.declared.coding.Deblocking.{Deblocking}
use Rattle.slice_header.specs.declared.picture_fields.Numbers.{Numbers}
use Rattle.slice_header.specs.declared.picture_fields.OrderCounts.{OrderCounts}
use Rattle.h264_types.specs.declared.param_sets.sps.Sps.{Sps}
use Rattle.h264_types.specs.declared.param_sets.sps.ChromaFormat.{ChromaFormat}
use Rattle.h264_types.specs.declared.param_sets.sps.ChromaFormat.TheVariants.{Monochrome}
use Rattle.h264_types.specs.declared.param_sets.pps.Pps.{Pps}
use Rattle.h264_types.specs.declared.param_sets.pps.WeightedBipred.{WeightedBipred}
use Rattle.h264_types.specs.declared.param_sets.pps.WeightedBipred.TheVariants.{Explicit}
use Rattle.expgolomb.specs.Ranges.{at_most}
use Rattle.expgolomb.specs.Rows.{always, flag_of}
use Rattle.h264_types.specs.CountTypes.{is_type_zero, is_type_one}
use Rattle.h264_types.specs.FrameNumbers.{max_frame_num}
use Rattle.slice_header.specs.HeaderRows.{u, ue, se, se_any}
use Rattle.h264_types.specs.SliceTypes.{is_p, is_b, is_i, has_list}
use Rattle.slice_header.specs.FrontSyntax.{front_table}
use Rattle.slice_header.specs.RefPicListModificationSyntax.{modification_syntax}
use Rattle.slice_header.specs.PredWeightTableSyntax.{weight_syntax, weights_if}
use Rattle.slice_header.specs.DecRefPicMarkingSyntax.{marking_syntax}
use Rattle.expgolomb.specs.Structures.{Table, Syntax, Says, Here, Structure, followed_by}

-- the number of macroblocks of a picture
abbrev pub pic_size_in_mbs : Sps → ℕ
pic_size_in_mbs sps = (sps.pic_width_in_mbs_minus1 + 1) * (sps.pic_height_in_map_units_minus1 + 1)

-- the numbers of a picture
pub data NumberField : Type 0 where
  FrameNum : NumberField
  IdrPicId : NumberField

-- what a field's value says
abbrev pub take_number : NumberField → ℤ → Numbers → Numbers
take_number FrameNum v s = record s { frame_num = nat_abs v }
take_number IdrPicId v s = record s { idr_pic_id = nat_abs v }

-- frame_num, and idr_pic_id of an IDR picture
unfoldable pub number_table : Bool → Sps → Table NumberField Numbers HeaderFault
number_table is_idr sps = record {
  take = take_number;
  rows =
      u FrameNum (sps.log2_max_frame_num_minus4 + 4) always
      ∷ ue IdrPicId (λ s. is_idr) 65535
      ∷ [];
  absent = record { frame_num = 0; idr_pic_id = 0 };
}

-- the fields of the picture order count
pub data OrderField : Type 0 where
  PicOrderCntLsb : OrderField
  DeltaPicOrderCntBottom : OrderField
  DeltaPicOrderCnt0 : OrderField
  DeltaPicOrderCnt1 : OrderField

-- what a field's value says
abbrev pub take_order : OrderField → ℤ → OrderCounts → OrderCounts
take_order PicOrderCntLsb v s = record s { pic_order_cnt_lsb = nat_abs v }
take_order DeltaPicOrderCntBottom v s = record s { delta_pic_order_cnt_bottom = v }
take_order DeltaPicOrderCnt0 v s = record s { delta_pic_order_cnt0 = v }
take_order DeltaPicOrderCnt1 v s = record s { delta_pic_order_cnt1 = v }

-- type 1 with deltas
abbrev pub has_deltas : Sps → Bool
has_deltas sps = is_type_one sps && not sps.delta_pic_order_always_zero_flag

-- type 0 has pic_order_cnt_lsb, and type 1 deltas
unfoldable pub order_table : Sps → Pps → Table OrderField OrderCounts HeaderFault
order_table sps pps = record {
  take = take_order;
  rows =
      u PicOrderCntLsb (sps.log2_max_pic_order_cnt_lsb_minus4 + 4) (λ s. is_type_zero sps)
      ∷ se_any DeltaPicOrderCntBottom (λ s. is_type_zero sps && pps.bottom_field_pic_order_in_frame_present_flag)
      ∷ se_any DeltaPicOrderCnt0 (λ s. has_deltas sps)
      ∷ se_any DeltaPicOrderCnt1 (λ s. has_deltas sps && pps.bottom_field_pic_order_in_frame_present_flag)
      ∷ [];
  absent = record {
    pic_order_cnt_lsb = 0;
    delta_pic_order_cnt_bottom = pos 0;
    delta_pic_order_cnt0 = pos 0;
    delta_pic_order_cnt1 = pos 0;
  };
}

-- redundant pictures and direct prediction
pub data PredictionField : Type 0 where
  RedundantPicCnt : PredictionField
  DirectSpatialMvPredFlag : PredictionField

-- what a field's value says
abbrev pub take_prediction : PredictionField → ℤ → Prediction → Prediction
take_prediction RedundantPicCnt v s = record s { redundant_pic_cnt = nat_abs v }
take_prediction DirectSpatialMvPredFlag v s = record s { direct_spatial_mv_pred_flag = flag_of v }

-- where the picture parameter set announces redundant pictures, and in a B slice
unfoldable pub prediction_table : SliceType → Pps → Table PredictionField Prediction HeaderFault
prediction_table slice_type pps = record {
  take = take_prediction;
  rows =
      ue RedundantPicCnt (λ s. pps.redundant_pic_cnt_present_flag) 127
      ∷ u DirectSpatialMvPredFlag 1 (λ s. is_b slice_type)
      ∷ [];
  absent = record { redundant_pic_cnt = 0; direct_spatial_mv_pred_flag = false };
}

-- the lengths of the lists
pub data ActiveField : Type 0 where
  NumRefIdxActiveOverrideFlag : ActiveField
  NumRefIdxL0ActiveMinus1 : ActiveField
  NumRefIdxL1ActiveMinus1 : ActiveField

-- what a field's value says
abbrev pub take_active : ActiveField → ℤ → ActiveCounts → ActiveCounts
take_active NumRefIdxActiveOverrideFlag v s = record s { num_ref_idx_active_override_flag = flag_of v }
take_active NumRefIdxL0ActiveMinus1 v s = record s { num_ref_idx_l0_active_minus1 = nat_abs v }
take_active NumRefIdxL1ActiveMinus1 v s = record s { num_ref_idx_l1_active_minus1 = nat_abs v }

-- An absent active count is the picture parameter set's where the slice has the list.
unfoldable pub active_table : SliceType → Pps → Table ActiveField ActiveCounts HeaderFault
active_table slice_type pps = record {
  take = take_active;
  rows =
      u NumRefIdxActiveOverrideFlag 1 (λ s. has_list slice_type)
      ∷ ue NumRefIdxL0ActiveMinus1 (λ s. s.num_ref_idx_active_override_flag) 31
      ∷ ue NumRefIdxL1ActiveMinus1 (λ s. s.num_ref_idx_active_override_flag && is_b slice_type) 31
      ∷ [];
  absent = record {
    num_ref_idx_active_override_flag = false;
    num_ref_idx_l0_active_minus1 = if has_list slice_type then pps.num_ref_idx_l0_default_active_minus1 else 0;
    num_ref_idx_l1_active_minus1 = if is_b slice_type then pps.num_ref_idx_l1_default_active_minus1 else 0;
  };
}

-- weighted_bipred_idc 1
abbrev pub is_explicit : WeightedBipred → Bool
is_explicit Explicit = true
is_explicit bipred = false

-- explicit weighted prediction
abbrev pub is_weighted : SliceType → Pps → Bool
is_weighted slice_type pps =
    is_p slice_type && pps.weighted_pred_flag || is_b slice_type && is_explicit pps.weighted_bipred_idc

-- entropy coding and quantisation
pub data CodingField : Type 0 where
  CabacInitIdc : CodingField
  SliceQpDelta : CodingField

-- what a field's value says
abbrev pub take_coding : CodingField → ℤ → Coding → Coding
take_coding CabacInitIdc v s = record s { cabac_init_idc = nat_abs v }
take_coding SliceQpDelta v s = record s { slice_qp_delta = v }

-- cabac_init_idc but in I slices, and slice_qp_delta, from -87 to 87 (this program's own range)
unfoldable pub coding_table : SliceType → Pps → Table CodingField Coding HeaderFault
coding_table slice_type pps = record {
  take = take_coding;
  rows =
      ue CabacInitIdc (λ s. pps.entropy_coding_mode_flag && not (is_i slice_type)) 2
      ∷ se SliceQpDelta always (negsuc 86) (pos 87)
      ∷ [];
  absent = record { cabac_init_idc = 0; slice_qp_delta = pos 0 };
}

-- the deblocking filter
pub data DeblockingField : Type 0 where
  DisableDeblockingFilterIdc : DeblockingField
  SliceAlphaC0OffsetDiv2 : DeblockingField
  SliceBetaOffsetDiv2 : DeblockingField

-- what a field's value says
abbrev pub take_deblocking : DeblockingField → ℤ → Deblocking → Deblocking
take_deblocking DisableDeblockingFilterIdc v s = record s { disable_deblocking_filter_idc = nat_abs v }
take_deblocking SliceAlphaC0OffsetDiv2 v s = record s { slice_alpha_c0_offset_div2 = v }
take_deblocking SliceBetaOffsetDiv2 v s = record s { slice_beta_offset_div2 = v }

-- whether its offsets are sent
abbrev pub has_offsets : Pps → Deblocking → Bool
has_offsets pps s = pps.deblocking_filter_control_present_flag && not (s.disable_deblocking_filter_idc == 1)

-- where the picture parameter set announces them
unfoldable pub deblocking_table : Pps → Table DeblockingField Deblocking HeaderFault
deblocking_table pps = record {
  take = take_deblocking;
  rows =
      ue DisableDeblockingFilterIdc (λ s. pps.deblocking_filter_control_present_flag) 2
      ∷ se SliceAlphaC0OffsetDiv2 (has_offsets pps) (negsuc 5) (pos 6)
      ∷ se SliceBetaOffsetDiv2 (has_offsets pps) (negsuc 5) (pos 6)
      ∷ [];
  absent = record {
    disable_deblocking_filter_idc = 0;
    slice_alpha_c0_offset_div2 = pos 0;
    slice_beta_offset_div2 = pos 0;
  };
}

-- chroma_format_idc 0
abbrev pub is_monochrome : ChromaFormat → Bool
is_monochrome Monochrome = true
is_monochrome format = false

-- the table of weights, where the slice has one: of list 0, and of list 1 in a B slice
unfoldable pub weights_of : SliceType → ℕ → ℕ → Sps → Pps → Syntax (Option PredWeightTable) HeaderFault
weights_of slice_type active_l0_minus1 active_l1_minus1 sps pps =
    weights_if (is_weighted slice_type pps)
    (weight_syntax (not (is_monochrome sps.chroma_format_idc)) (active_l0_minus1 + 1)
    (if is_b slice_type then active_l1_minus1 + 1 else 0))

-- Which picture the slice is of: up to its picture order count, whose size in bits is the distance of the places
-- around it.
unfoldable pub picture_syntax : Bool → Sps → Pps → Syntax PicturePart HeaderFault
picture_syntax is_idr sps pps =
    Structure (front_table (at_most (pic_size_in_mbs sps - 1) Value)) (λ front.
    Structure (number_table is_idr sps) (λ numbers.
    Here (λ orders_from.
    Structure (order_table sps pps) (λ orders.
    Here (λ orders_to.
    Says record { front = front; numbers = numbers; orders = orders; order_bits = orders_to - orders_from })))))

-- how it is predicted from other pictures: up to its weights
unfoldable pub reference_syntax : SliceType → Sps → Pps → Syntax ReferencePart HeaderFault
reference_syntax slice_type sps pps =
    Structure (prediction_table slice_type pps) (λ prediction.
    Structure (active_table slice_type pps) (λ active.
    followed_by (modification_syntax (has_list slice_type) active.num_ref_idx_l0_active_minus1 (max_frame_num sps)) (λ list0.
    followed_by (modification_syntax (is_b slice_type) active.num_ref_idx_l1_active_minus1 (max_frame_num sps)) (λ list1.
    followed_by (weights_of slice_type active.num_ref_idx_l0_active_minus1 active.num_ref_idx_l1_active_minus1 sps pps) (λ weights.
    Says record { prediction = prediction; active = active; list0 = list0; list1 = list1; weights = weights })))))

-- its marking, whose size in bits is the distance of the places around it, and what stands after that
unfoldable pub ending_syntax : (is_reference is_idr : Bool) → SliceType → Pps → Syntax EndingPart HeaderFault
ending_syntax is_reference is_idr slice_type pps =
    Here (λ marking_from.
    followed_by (marking_syntax is_reference is_idr) (λ marking.
    Here (λ marking_to.
    Structure (coding_table slice_type pps) (λ coding.
    Structure (deblocking_table pps) (λ deblocking.
    Here (λ after.
    Says record {
      marking = marking;
      coding = coding;
      deblocking = deblocking;
      marking_bits = marking_to - marking_from;
      after = after;
    }))))))

-- the header of these fields of a unit with this nal_ref_idc and nal_unit_type
abbrev pub header_from : ℕ → ℕ → HeaderFields → SliceHeader
header_from nal_ref_idc nal_unit_type fields = record {
  nal_ref_idc = nal_ref_idc;
  nal_unit_type = nal_unit_type;
  first_mb_in_slice = fields.picture.front.first_mb_in_slice;
  slice_type = fields.picture.front.slice_type;
  pic_parameter_set_id = fields.picture.front.pic_parameter_set_id;
  frame_num = fields.picture.numbers.frame_num;
  idr_pic_id = fields.picture.numbers.idr_pic_id;
  pic_order_cnt_lsb = fields.picture.orders.pic_order_cnt_lsb;
  delta_pic_order_cnt_bottom = fields.picture.orders.delta_pic_order_cnt_bottom;
  delta_pic_order_cnt0 = fields.picture.orders.delta_pic_order_cnt0;
  delta_pic_order_cnt1 = fields.picture.orders.delta_pic_order_cnt1;
  redundant_pic_cnt = fields.references.prediction.redundant_pic_cnt;
  direct_spatial_mv_pred_flag = fields.references.prediction.direct_spatial_mv_pred_flag;
  num_ref_idx_l0_active_minus1 = fields.references.active.num_ref_idx_l0_active_minus1;
  num_ref_idx_l1_active_minus1 = fields.references.active.num_ref_idx_l1_active_minus1;
  ref_pic_list_modification_l0 = fields.references.list0;
  ref_pic_list_modification_l1 = fields.references.list1;
  pred_weight_table = fields.references.weights;
  dec_ref_pic_marking = fields.ending.marking;
  cabac_init_idc = fields.ending.coding.cabac_init_idc;
  slice_qp_delta = fields.ending.coding.slice_qp_delta;
  disable_deblocking_filter_idc = fields.ending.deblocking.disable_deblocking_filter_idc;
  slice_alpha_c0_offset_div2 = fields.ending.deblocking.slice_alpha_c0_offset_div2;
  slice_beta_offset_div2 = fields.ending.deblocking.slice_beta_offset_div2;
  header_bit_size = fields.ending.after;
  dec_ref_pic_marking_bit_size = fields.ending.marking_bits;
  pic_order_cnt_bit_size = fields.picture.order_bits;
}

-- the whole header, each part after the other, and what they say
unfoldable pub header_syntax : ℕ → ℕ → Sps → Pps → Syntax SliceHeader HeaderFault
header_syntax nal_ref_idc nal_unit_type sps pps =
    followed_by (picture_syntax (nal_unit_type == 5) sps pps) (λ picture.
    followed_by (reference_syntax picture.front.slice_type sps pps) (λ references.
    followed_by (ending_syntax (not (nal_ref_idc == 0)) (nal_unit_type == 5) picture.front.slice_type pps) (λ ending.
    Says (header_from nal_ref_idc nal_unit_type record { picture = picture; references = references; ending = ending }))))
