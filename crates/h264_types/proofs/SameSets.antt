-- Sets whose fields agree are equal.
use Rattle.std.proofs.Common.{◌≡◌, refl, ap, Bool, true, false, Option, None, Some, List, ℤ, int_eq, Decides, rules, ◌&&◌}
use Rattle.std.specs.Option.{option_eq}
use Rattle.std.proofs.lemmas.Bool.Decides.{Decides-and, Decides-eqb, Decides-int_eq, Decides-like}
use Rattle.std.proofs.lemmas.Slice.Eq.{slice_eq-Decides}
use Rattle.std.specs.Bool.{beq}
use lib.Pointwise.{pointwise}
use Rattle.h264_types.specs.declared.param_sets.sps.Sps.{Sps}
use Rattle.h264_types.specs.declared.param_sets.sps.ChromaFormat.{ChromaFormat}
use Rattle.h264_types.specs.declared.param_sets.sps.ChromaFormat.TheVariants.{Monochrome, Yuv420, Yuv422}
use Rattle.h264_types.specs.declared.param_sets.sps.PicOrderCntType.{PicOrderCntType}
use Rattle.h264_types.specs.declared.param_sets.sps.PicOrderCntType.TheVariants.{Zero, One, Two}
use Rattle.h264_types.specs.SameSets.{same_format, same_type, same_sps}

-- two tests decide both facts
infixl 10 ◌also◌
◌also◌ : {x y : Bool} {P Q : Type 0} → Decides x P → Decides y Q → Decides (x && y) (P × Q)
◌also◌ {x} {y} p q = Decides-and x y p q

flag_same : (a b : Bool) → Decides (beq a b) (a ≡ b)
flag_same true true = search rules
flag_same true false = search rules
flag_same false true = search rules
flag_same false false = search rules

format_same : (a b : ChromaFormat) → Decides (same_format a b) (a ≡ b)
format_same Monochrome Monochrome = search rules
format_same Monochrome Yuv420 = search rules
format_same Monochrome Yuv422 = search rules
format_same Yuv420 Monochrome = search rules
format_same Yuv420 Yuv420 = search rules
format_same Yuv420 Yuv422 = search rules
format_same Yuv422 Monochrome = search rules
format_same Yuv422 Yuv420 = search rules
format_same Yuv422 Yuv422 = search rules

type_same : (a b : PicOrderCntType) → Decides (same_type a b) (a ≡ b)
type_same Zero Zero = search rules
type_same Zero One = search rules
type_same Zero Two = search rules
type_same One Zero = search rules
type_same One One = search rules
type_same One Two = search rules
type_same Two Zero = search rules
type_same Two One = search rules
type_same Two Two = search rules

flags_same : (a b : List Bool) → Decides (pointwise beq a b) (a ≡ b)
flags_same a b = slice_eq-Decides flag_same a b _ refl

offsets_same : (a b : List ℤ) → Decides (pointwise int_eq a b) (a ≡ b)
offsets_same a b = slice_eq-Decides Decides-int_eq a b _ refl

-- lists that are there agree in their deltas
list_same : (a b : Option (List ℤ)) → Decides (option_eq (pointwise int_eq) a b) (a ≡ b)
list_same None None = search rules
list_same None (Some y) = search rules
list_same (Some x) None = search rules
list_same (Some x) (Some y) = Decides-like (pointwise int_eq x y) (ap Some) (λ e. cc) (offsets_same x y)

pub lists_same : (a b : List (Option (List ℤ))) → Decides (pointwise (option_eq (pointwise int_eq)) a b) (a ≡ b)
lists_same a b = slice_eq-Decides list_same a b _ refl

-- each field is decided, and equal fields make one set
pub sps_same : (a b : Sps) → Decides (same_sps a b) (a ≡ b)
unfolding same_sps
sps_same a b =
    let profile = Decides-eqb a.profile_idc b.profile_idc
    also flags_same a.constraint_set_flags b.constraint_set_flags
    also Decides-eqb a.level_idc b.level_idc
    also Decides-eqb a.seq_parameter_set_id b.seq_parameter_set_id
    also format_same a.chroma_format_idc b.chroma_format_idc
    also Decides-eqb a.bit_depth_luma_minus8 b.bit_depth_luma_minus8
    also Decides-eqb a.bit_depth_chroma_minus8 b.bit_depth_chroma_minus8
    also flag_same a.qpprime_y_zero_transform_bypass_flag b.qpprime_y_zero_transform_bypass_flag in
    let matrix = flag_same a.seq_scaling_matrix_present_flag b.seq_scaling_matrix_present_flag
    also lists_same a.scaling_lists b.scaling_lists in
    let counting = Decides-eqb a.log2_max_frame_num_minus4 b.log2_max_frame_num_minus4
    also type_same a.pic_order_cnt_type b.pic_order_cnt_type
    also Decides-eqb a.log2_max_pic_order_cnt_lsb_minus4 b.log2_max_pic_order_cnt_lsb_minus4
    also flag_same a.delta_pic_order_always_zero_flag b.delta_pic_order_always_zero_flag in
    let cycle = Decides-int_eq a.offset_for_non_ref_pic b.offset_for_non_ref_pic
    also Decides-int_eq a.offset_for_top_to_bottom_field b.offset_for_top_to_bottom_field
    also Decides-eqb a.num_ref_frames_in_pic_order_cnt_cycle b.num_ref_frames_in_pic_order_cnt_cycle
    also offsets_same a.offset_for_ref_frame b.offset_for_ref_frame in
    let frames = Decides-eqb a.max_num_ref_frames b.max_num_ref_frames
    also flag_same a.gaps_in_frame_num_value_allowed_flag b.gaps_in_frame_num_value_allowed_flag
    also Decides-eqb a.pic_width_in_mbs_minus1 b.pic_width_in_mbs_minus1
    also Decides-eqb a.pic_height_in_map_units_minus1 b.pic_height_in_map_units_minus1
    also flag_same a.direct_8x8_inference_flag b.direct_8x8_inference_flag in
    let fields = profile also (matrix also (counting also (cycle also frames))) in
    Decides-like (same_sps a b) (λ equal. search rules) (λ same. search rules) fields
