-- Members that are equal by `==` are the same.
use Rattle.std.proofs.Common.{eqb, ◌≡◌, ◌&&◌, refl, ap, Bool, true, false, List, Option, None, Some, ℕ, ℤ, Decides, rules}
use Rattle.std.specs.Option.{option_eq}
use Rattle.std.specs.Ordering.{int_eq}
use lib.Pointwise.{pointwise}
use Rattle.param_set_controls.proofs.Same.{flag_same, offsets_same}
use Rattle.std.proofs.lemmas.Bool.Decides.{Decides-and, Decides-eqb, Decides-int_eq, Decides-like}
use Rattle.std.proofs.lemmas.Slice.Eq.{slice_eq-Decides}
use Rattle.h264_controls.specs.declared.v4l2_ctrl_h264_decode_params.V4l2H264DpbEntry.{V4l2H264DpbEntry}
use Rattle.h264_controls.specs.declared.v4l2_ctrl_h264_decode_params.V4l2H264FieldReference.{V4l2H264FieldReference}
use Rattle.h264_controls.specs.declared.v4l2_ctrl_h264_decode_params.V4l2H264FieldReference.TheVariants.{TopField, BottomField, Frame}
use Rattle.h264_controls.specs.declared.v4l2_ctrl_h264_decode_params.DpbEntryFlags.{DpbEntryFlags}
use Rattle.h264_controls.specs.declared.v4l2_ctrl_h264_pred_weights.V4l2H264WeightFactors.{V4l2H264WeightFactors}
use Rattle.h264_controls.specs.contracts.v4l2_ctrl_h264_decode_params.V4l2H264DpbEntryPartialEq.TheImpl as entries
use Rattle.h264_controls.specs.contracts.v4l2_ctrl_h264_decode_params.V4l2H264FieldReferencePartialEq.TheImpl as references
use Rattle.h264_controls.specs.contracts.v4l2_ctrl_h264_decode_params.DpbEntryFlagsPartialEq.TheImpl as flags
use Rattle.h264_controls.specs.contracts.v4l2_ctrl_h264_pred_weights.V4l2H264WeightFactorsPartialEq.TheImpl as factors

pairs_same : (a b : List (List ℤ)) → Decides (pointwise (pointwise int_eq) a b) (a ≡ b)
pairs_same a b = slice_eq-Decides offsets_same a b _ refl

-- entries of a reference list
pub index_same : (a b : Option ℕ) → Decides (option_eq eqb a b) (a ≡ b)
index_same None None = search rules
index_same None (Some y) = search rules
index_same (Some x) None = search rules
index_same (Some x) (Some y) = Decides-like (eqb x y) (ap Some) (λ e. cc) (Decides-eqb x y)

fields_same : (a b : V4l2H264FieldReference) → Decides (references.eq-value.it a b) (a ≡ b)
fields_same TopField TopField = search rules
fields_same TopField BottomField = search rules
fields_same TopField Frame = search rules
fields_same BottomField TopField = search rules
fields_same BottomField BottomField = search rules
fields_same BottomField Frame = search rules
fields_same Frame TopField = search rules
fields_same Frame BottomField = search rules
fields_same Frame Frame = search rules

flags_same : (a b : DpbEntryFlags) → Decides (flags.eq-value.it a b) (a ≡ b)
flags_same a b =
    let parts = Decides-and _ _ (flag_same a.valid b.valid) (Decides-and _ _ (flag_same a.active b.active) (flag_same a.long_term b.long_term)) in
    Decides-like (flags.eq-value.it a b) (λ same. search rules) (λ e. search rules) parts

-- an entry of the decoded picture buffer
pub entry_same : (a b : V4l2H264DpbEntry) → Decides (entries.eq-value.it a b) (a ≡ b)
entry_same a b =
    let numbers = Decides-and _ _ (Decides-eqb a.pic_num b.pic_num) (Decides-and _ _ (Decides-eqb a.frame_num b.frame_num) (Decides-and _ _ (fields_same a.fields b.fields) (Decides-and _ _ (Decides-int_eq a.top_field_order_cnt b.top_field_order_cnt) (Decides-and _ _ (Decides-int_eq a.bottom_field_order_cnt b.bottom_field_order_cnt) (flags_same a.flags b.flags))))) in
    Decides-like (entries.eq-value.it a b) (λ same. search rules) (λ e. search rules) numbers

factors_same : (a b : V4l2H264WeightFactors) → Decides (factors.eq-value.it a b) (a ≡ b)
factors_same a b =
    let parts = Decides-and _ _ (offsets_same a.luma_weight b.luma_weight) (Decides-and _ _ (offsets_same a.luma_offset b.luma_offset) (Decides-and _ _ (pairs_same a.chroma_weight b.chroma_weight) (pairs_same a.chroma_offset b.chroma_offset))) in
    Decides-like (factors.eq-value.it a b) (λ same. search rules) (λ e. search rules) parts

-- the weights of both lists
pub weights_same : (a b : List V4l2H264WeightFactors) → Decides (pointwise factors.eq-value.it a b) (a ≡ b)
weights_same a b = slice_eq-Decides factors_same a b _ refl
