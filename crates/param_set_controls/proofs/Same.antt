-- Members that are equal by `==` are the same.
use Rattle.std.proofs.Common.{eqb, ◌≡◌, ◌&&◌, refl, Bool, true, false, List, ℕ, ℤ, Decides, rules}
use Rattle.std.specs.Bool.{beq}
use Rattle.std.specs.Ordering.{int_eq}
use lib.Pointwise.{pointwise}
use Rattle.std.proofs.lemmas.Bool.Decides.{Decides-and, Decides-eqb, Decides-int_eq, Decides-like}
use Rattle.std.proofs.lemmas.Slice.Eq.{slice_eq-Decides}
use Rattle.param_set_controls.specs.declared.v4l2_ctrl_h264_sps.SpsFlags.{SpsFlags}
use Rattle.param_set_controls.specs.declared.v4l2_ctrl_h264_pps.PpsFlags.{PpsFlags}
use Rattle.param_set_controls.specs.contracts.v4l2_ctrl_h264_sps.SpsFlagsPartialEq.TheImpl as of_sps
use Rattle.param_set_controls.specs.contracts.v4l2_ctrl_h264_pps.PpsFlagsPartialEq.TheImpl as of_pps

pub flag_same : (a b : Bool) → Decides (beq a b) (a ≡ b)
flag_same true true = search rules
flag_same true false = search rules
flag_same false true = search rules
flag_same false false = search rules

pub set_flags_same : (a b : List Bool) → Decides (pointwise beq a b) (a ≡ b)
set_flags_same a b = slice_eq-Decides flag_same a b _ refl

pub offsets_same : (a b : List ℤ) → Decides (pointwise int_eq a b) (a ≡ b)
offsets_same a b = slice_eq-Decides Decides-int_eq a b _ refl

scales_same : (a b : List ℕ) → Decides (pointwise eqb a b) (a ≡ b)
scales_same a b = slice_eq-Decides Decides-eqb a b _ refl

pub scaling_lists_same : (a b : List (List ℕ)) → Decides (pointwise (pointwise eqb) a b) (a ≡ b)
scaling_lists_same a b = slice_eq-Decides scales_same a b _ refl

infixl 10 ◌also◌
◌also◌ : {x y : Bool} {P Q : Type 0} → Decides x P → Decides y Q → Decides (x && y) (P × Q)
◌also◌ {x} {y} p q = Decides-and x y p q

pub sps_flags_same : (a b : SpsFlags) → Decides (of_sps.eq-value.it a b) (a ≡ b)
sps_flags_same a b =
    let parts = flag_same a.separate_colour_plane b.separate_colour_plane
    also (flag_same a.qpprime_y_zero_transform_bypass b.qpprime_y_zero_transform_bypass
    also (flag_same a.delta_pic_order_always_zero b.delta_pic_order_always_zero
    also (flag_same a.gaps_in_frame_num_value_allowed b.gaps_in_frame_num_value_allowed
    also (flag_same a.frame_mbs_only b.frame_mbs_only
    also (flag_same a.mb_adaptive_frame_field b.mb_adaptive_frame_field
    also flag_same a.direct_8x8_inference b.direct_8x8_inference))))) in
    Decides-like (of_sps.eq-value.it a b) (λ same. search rules) (λ e. search rules) parts

pub pps_flags_same : (a b : PpsFlags) → Decides (of_pps.eq-value.it a b) (a ≡ b)
pps_flags_same a b =
    let parts = flag_same a.entropy_coding_mode b.entropy_coding_mode
    also (flag_same a.bottom_field_pic_order_in_frame_present b.bottom_field_pic_order_in_frame_present
    also (flag_same a.weighted_pred b.weighted_pred
    also (flag_same a.deblocking_filter_control_present b.deblocking_filter_control_present
    also (flag_same a.constrained_intra_pred b.constrained_intra_pred
    also (flag_same a.redundant_pic_cnt_present b.redundant_pic_cnt_present
    also (flag_same a.transform_8x8_mode b.transform_8x8_mode
    also flag_same a.scaling_matrix_present b.scaling_matrix_present)))))) in
    Decides-like (of_pps.eq-value.it a b) (λ same. search rules) (λ e. search rules) parts
