-- How long the parts are that are filled up with zeros.
use Rattle.std.proofs.Common.{◌≡◌, ℕ, ◌*◌, List, [], ◌∷◌, length, refl, arith, length-append, Option, None, Some}
use Rattle.std.specs.List.{flat_map}
use Rattle.h264_controls.specs.declared.v4l2_ctrl_h264_decode_params.V4l2H264DpbEntry.{V4l2H264DpbEntry}
use Rattle.param_set_controls.specs.Words.{u16, u32, s32}
use Rattle.h264_controls.specs.SliceParamsForm.{reference_form}
use Rattle.h264_controls.specs.DecodeParamsForm.{dpb_entry_form}

length-reference : (entry : Option ℕ) → length (reference_form entry) ≡ 2
length-reference None = refl
length-reference (Some index) = refl

pub length-references : (entries : List (Option ℕ)) → length (flat_map reference_form entries) ≡ 2 * length entries
length-references [] = refl
length-references (entry ∷ entries) =
    omega (arith, length-append (reference_form entry) (flat_map reference_form entries), length-reference entry, length-references entries)

length-dpb_entry : (entry : V4l2H264DpbEntry) → length (dpb_entry_form entry) ≡ 19
unfolding dpb_entry_form u16 u32 s32
length-dpb_entry entry = refl

pub length-dpb : (entries : List V4l2H264DpbEntry) → length (flat_map dpb_entry_form entries) ≡ 19 * length entries
length-dpb [] = refl
length-dpb (entry ∷ entries) =
    omega (arith, length-append (dpb_entry_form entry) (flat_map dpb_entry_form entries), length-dpb_entry entry, length-dpb entries)
