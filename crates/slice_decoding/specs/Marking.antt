-- Decoded reference picture marking process (ITU-T H.264, 8.2.5.1): the set of marked frames after a picture.
use Rattle.std.specs.Prelude.{◌≡◌, ◌<◌, ◌≤◌, ◌++◌, ◌∷◌, ◌&&◌, ◌||◌, ℕ, Bool, true, false, nat_lt, List, [], length, count_by, Option, Some, None, Ok, Err, MatchBool, if◌then◌else◌}
use Rattle.std.specs.List.{list_any}
use Rattle.h264_types.specs.declared.param_sets.sps.Sps.{Sps}
use Rattle.h264_types.specs.declared.slice_headers.slice_headers.SliceHeader.{SliceHeader}
use Rattle.h264_types.specs.declared.slice_headers.dec_ref_pic_marking.DecRefPicMarking.{DecRefPicMarking}
use Rattle.h264_types.specs.declared.slice_headers.dec_ref_pic_marking.DecRefPicMarking.TheVariants.{Idr, SlidingWindow, Adaptive}
use Rattle.h264_types.specs.declared.slice_headers.dec_ref_pic_marking.MemoryManagementControlOperation.{MemoryManagementControlOperation}
use Rattle.h264_types.specs.declared.slice_headers.dec_ref_pic_marking.MemoryManagementControlOperation.TheVariants.{FreeShortTerm, FreeLongTerm, AssignLongTerm, LimitLongTerm, CurrentLongTerm}
use Rattle.h264_types.specs.declared.pictures.counts.Counts.{Counts}
use Rattle.h264_types.specs.Pictures.{is_reference}
use Rattle.h264_types.specs.Resetting.{is_five, has_operation_five, counts_after_reset}
use Rattle.slice_decoding.specs.declared.ref_marking.fault.MarkFault.TheVariants.{BadMarking, TooManyReferences}
use Rattle.h264_types.specs.declared.pictures.frames.Frame.{Frame}
use Rattle.h264_types.specs.declared.pictures.frames.Term.{Term}
use Rattle.h264_types.specs.declared.pictures.frames.Term.TheVariants.{ShortTerm, LongTerm}
use Rattle.h264_types.specs.MarkedFrames.{Marked, most_frames}
use Rattle.slice_decoding.specs.Steps.{Step, Stays, Then}
use Rattle.slice_decoding.specs.SlidingWindow.{SlidesWindow}
use Rattle.slice_decoding.specs.Operations.{FreesHolder, OperatesAll}

-- the frame of the current picture as it is marked: after operation 5 its frame_num counts as 0, and its counts are
-- those after resetting (8.2.1, 7.4.3)
abbrev pub current_frame : ℕ → SliceHeader → Counts → Term → Frame
current_frame id header counts term = record {
  id = id;
  frame_num = if has_operation_five header then 0 else header.frame_num;
  term = term;
  counts = counts_after_reset header counts;
}

-- the current frame is marked, as the last in decode order; then no more frames are marked than may be
abbrev pub Joins : Sps → Frame → Step
Joins sps frame before (Ok after) =
    (length before.frames < most_frames sps) × (after ≡ record before { frames = before.frames ++ frame ∷ [] })
Joins sps frame before (Err error) = (error ≡ TooManyReferences) × (most_frames sps ≤ length before.frames)

-- an IDR picture is the only one that is marked: with long_term_reference_flag as a long-term frame of index 0, which is
-- the greatest, else as a short-term frame without long-term indices
abbrev pub idr_marked : Bool → (Term → Frame) → Marked
idr_marked true current = record { frames = current (LongTerm 0) ∷ []; max_long_term_frame_idx = Some 0 }
idr_marked false current = record { frames = current ShortTerm ∷ []; max_long_term_frame_idx = None }

-- operations 1, 2 and 3, which name a frame
abbrev pub names_frame : MemoryManagementControlOperation → Bool
names_frame (FreeShortTerm difference) = true
names_frame (FreeLongTerm number) = true
names_frame (AssignLongTerm difference idx) = true
names_frame operation = false

-- operation 4
abbrev pub is_four : MemoryManagementControlOperation → Bool
is_four (LimitLongTerm plus1) = true
is_four operation = false

-- operation 6
abbrev pub is_six : MemoryManagementControlOperation → Bool
is_six (CurrentLongTerm idx) = true
is_six operation = false

-- more than one operation of a kind
abbrev pub repeats : (MemoryManagementControlOperation → Bool) → List MemoryManagementControlOperation → Bool
repeats is_kind operations = nat_lt 1 (count_by is_kind operations)

-- 4, 5 or 6 stands twice, or 5 stands with 1, 2 or 3 (7.4.3.3)
abbrev pub contradict : List MemoryManagementControlOperation → Bool
contradict operations =
    repeats is_four operations || repeats is_five operations || repeats is_six operations
    || (list_any is_five operations && list_any names_frame operations)

-- the LongTermFrameIdx that operation 6 gives the current frame
abbrev pub current_idx : List MemoryManagementControlOperation → Option ℕ
current_idx [] = None
current_idx (CurrentLongTerm idx ∷ operations) = Some idx
current_idx (operation ∷ operations) = current_idx operations

-- the current frame joins the others: as a long-term frame where operation 6 says so, else as a short-term frame
abbrev pub JoinsAs : Option ℕ → Sps → (Term → Frame) → Step
JoinsAs None sps current = Joins sps (current ShortTerm)
JoinsAs (Some idx) sps current = Then (FreesHolder idx) (Joins sps (current (LongTerm idx)))

-- adaptive memory control marking (8.2.5.4)
abbrev pub MarksAdaptively : Sps → ℕ → List MemoryManagementControlOperation → (Term → Frame) → Step
MarksAdaptively sps frame_num operations current before result =
    MatchBool (contradict operations)
    (result ≡ Err BadMarking)
    (Then (OperatesAll sps frame_num operations) (JoinsAs (current_idx operations) sps current) before result)

-- the marking of a reference picture (8.2.5.1)
abbrev pub MarksReference : DecRefPicMarking → Sps → ℕ → (Term → Frame) → Step
MarksReference (Idr no_output_of_prior_pics_flag long_term_reference_flag) sps frame_num current before result =
    result ≡ Ok (idr_marked long_term_reference_flag current)
MarksReference SlidingWindow sps frame_num current before result =
    Then (SlidesWindow sps frame_num) (Joins sps (current ShortTerm)) before result
MarksReference (Adaptive operations) sps frame_num current before result =
    MarksAdaptively sps frame_num operations current before result

-- the set of marked frames after the picture with this id, header and counts, or the fault; a picture that is no
-- reference leaves the set
abbrev pub MarksPicture : (id : ℕ) → Sps → SliceHeader → Counts → Step
MarksPicture id sps header counts before result =
    MatchBool (is_reference header)
    (MarksReference header.dec_ref_pic_marking sps header.frame_num (current_frame id header counts) before result)
    (Stays before result)
