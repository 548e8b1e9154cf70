-- The sliding window, by what it finds.
use Rattle.std.proofs.Common.{◌≡◌, ℕ, ℤ, length, eq-eqb, filter_map, position, Option, Some, Result, refl, sym, ◌∙◌, ap}
use Rattle.std.specs.Int.{int_min}
use Rattle.std.specs.List.{reduce}
use Rattle.h264_types.specs.declared.param_sets.sps.Sps.{Sps}
use Rattle.slice_decoding.specs.declared.ref_marking.fault.MarkFault.{MarkFault}
use Rattle.slice_decoding.specs.declared.ref_marking.fault.MarkFault.TheVariants.{NoShortTerm}
use Rattle.h264_types.specs.MarkedFrames.{Marked, most_frames}
use Rattle.h264_types.specs.PicNums.{pic_num}
use Rattle.slice_decoding.specs.MarksAfter.{has_pic_num, without_at, window_slid, least_freed}
use Rattle.slice_decoding.proofs.Places.{without_first}

-- a full window is that of its least FrameNumWrap
pub slid_is : (sps : Sps) (frame_num : ℕ) (marked : Marked) (least : Option ℤ) → length marked.frames ≡ most_frames sps
    → least ≡ reduce int_min (filter_map (pic_num sps frame_num) marked.frames) → window_slid sps frame_num marked ≡ least_freed sps frame_num marked least
unfolding window_slid
slid_is sps frame_num marked least full is =
    let e = eq-eqb (length marked.frames) (most_frames sps) full in rw (e, is) refl

-- it frees the frame at the place of that number
pub slid_at : (sps : Sps) (frame_num : ℕ) (marked : Marked) (number : ℤ) (found : Option ℤ) (place : Option ℕ) (answer : Result Marked MarkFault)
    → length marked.frames ≡ most_frames sps → found ≡ reduce int_min (filter_map (pic_num sps frame_num) marked.frames) → found ≡ Some number
    → place ≡ position (has_pic_num sps frame_num number) marked.frames → answer ≡ without_at NoShortTerm marked place → answer ≡ window_slid sps frame_num marked
slid_at sps frame_num marked number found place answer full is some at freed =
    freed ∙ (ap (without_at NoShortTerm marked) at ∙ (without_first NoShortTerm marked (has_pic_num sps frame_num number) ∙ sym (slid_is sps frame_num marked (Some number) full (sym some ∙ is))))
