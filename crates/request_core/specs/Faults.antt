-- What keeps a picture from being decoded after those before it, before it is counted (ITU-T H.264,
-- 7.4.1.2.1 and 7.4.3).
use Rattle.std.specs.Prelude.{ℕ, ◌+◌, ◌%◌, ◌==◌, Bool, true, false, not, ◌&&◌, ◌||◌, List, [], ◌∷◌, Option, None, Some}
use Rattle.std.specs.List.{list_any}
use Rattle.h264_types.specs.declared.param_sets.sps.Sps.{Sps}
use Rattle.h264_types.specs.declared.slice_headers.slice_headers.SliceHeader.{SliceHeader}
use Rattle.h264_types.specs.Pictures.{is_idr, is_reference}
use Rattle.h264_types.specs.FrameNumbers.{max_frame_num}
use Rattle.h264_types.specs.declared.pictures.frames.Frame.{Frame}
use Rattle.h264_types.specs.declared.pictures.frames.Term.{Term}
use Rattle.h264_types.specs.declared.pictures.frames.Term.TheVariants.{ShortTerm}
use Rattle.unit_outcomes.specs.declared.validity_fault.ValidityFault.TheVariants.{NoIdr, SpsChange, IdrFrameNum, FrameNumGap, FrameNumRepeat}
use Rattle.h264_types.specs.SameSets.{same_sps}
use Rattle.slice_reading.specs.Faults.{Row}
use Rattle.request_core.specs.States.{FoldState}

-- the active set is this one
abbrev pub is_active : Sps → Option Sps → Bool
is_active sps None = false
is_active sps (Some active) = same_sps active sps

abbrev pub is_none : Option Sps → Bool
is_none None = true
is_none (Some active) = false

-- a short-term frame with this frame_num
abbrev pub is_short_term : ℕ → Frame → Bool
is_short_term frame_num frame = by_term frame.term && frame.frame_num == frame_num
  where
    by_term : Term → Bool
    by_term ShortTerm = true
    by_term term = false

-- frame_num follows that of the last reference picture, or is the same (7.4.3)
abbrev pub follows : FoldState → Sps → SliceHeader → Bool
follows state sps header =
    header.frame_num == state.prev_ref_frame_num
    || header.frame_num == (state.prev_ref_frame_num + 1) % max_frame_num sps

-- frame_num is that of the last reference picture, or of a short-term frame
abbrev pub repeats : FoldState → SliceHeader → Bool
repeats state header =
    header.frame_num == state.prev_ref_frame_num
    || list_any (is_short_term header.frame_num) state.marks.frames

-- the picture after those before it
abbrev pub picture_rows : FoldState → Sps → SliceHeader → List Row
picture_rows state sps header =
    (NoIdr, not (is_idr header) && is_none state.active)
    ∷ (SpsChange, not (is_idr header) && not (is_active sps state.active))
    ∷ (IdrFrameNum, is_idr header && not (header.frame_num == 0))
    ∷ (FrameNumGap, not (is_idr header) && not (follows state sps header))
    ∷ (FrameNumRepeat, not (is_idr header) && is_reference header && repeats state header)
    ∷ []
