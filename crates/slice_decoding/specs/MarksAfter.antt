-- The set of marked frames after a picture as a function of the set before it: what each step of marking gives.
use Rattle.std.specs.Prelude.{◌==◌, ◌++◌, ◌∷◌, ℕ, ℤ, Bool, false, nat_le, nat_lt, nat_eq, List, [], length, filter, filter_map, remove, Option, Some, None, option_map, Result, Ok, Err, if◌then◌else◌, ⊤}
use Rattle.std.specs.Int.{int_min}
use Rattle.std.specs.List.{reduce}
use Rattle.std.specs.Option.{option_eq}
use Rattle.std.specs.Ordering.{int_eq}
use Rattle.h264_types.specs.declared.param_sets.sps.Sps.{Sps}
use Rattle.h264_types.specs.Chains.{◌>>=◌}
use Rattle.h264_types.specs.declared.slice_headers.slice_headers.SliceHeader.{SliceHeader}
use Rattle.h264_types.specs.declared.slice_headers.dec_ref_pic_marking.DecRefPicMarking.{DecRefPicMarking}
use Rattle.h264_types.specs.declared.slice_headers.dec_ref_pic_marking.DecRefPicMarking.TheVariants.{Idr, SlidingWindow, Adaptive}
use Rattle.h264_types.specs.declared.slice_headers.dec_ref_pic_marking.MemoryManagementControlOperation.{MemoryManagementControlOperation}
use Rattle.h264_types.specs.declared.slice_headers.dec_ref_pic_marking.MemoryManagementControlOperation.TheVariants.{FreeShortTerm, FreeLongTerm, AssignLongTerm, LimitLongTerm, FreeAll, CurrentLongTerm}
use Rattle.h264_types.specs.declared.pictures.counts.Counts.{Counts}
use Rattle.h264_types.specs.Pictures.{is_reference}
use Rattle.slice_decoding.specs.declared.ref_marking.fault.MarkFault.{MarkFault}
use Rattle.slice_decoding.specs.declared.ref_marking.fault.MarkFault.TheVariants.{BadMarking, NoShortTerm, TooManyReferences}
use Rattle.h264_types.specs.declared.pictures.frames.Frame.{Frame}
use Rattle.h264_types.specs.declared.pictures.frames.Term.{Term}
use Rattle.h264_types.specs.declared.pictures.frames.Term.TheVariants.{ShortTerm, LongTerm}
use Rattle.h264_types.specs.MarkedFrames.{Marked, no_frames, most_frames, without_idx, as_long_term}
use Rattle.h264_types.specs.PicNums.{pic_num, long_term_pic_num}
use Rattle.slice_decoding.specs.Steps.{Place}
use Rattle.slice_decoding.specs.Operations.{pic_num_x, max_idx, is_below}
use Rattle.slice_decoding.specs.Marking.{current_frame, idr_marked, contradict, current_idx}

-- what a change in place leaves: the set, or the fault that it answers
abbrev pub leaves : Result ⊤ MarkFault → Marked → Result Marked MarkFault
leaves (Ok done) marked = Ok marked
leaves (Err fault) marked = Err fault

-- a place after one more frame
abbrev pub after_frame : Frame → Place → Place
after_frame frame place = record place { earlier = frame ∷ place.earlier }

-- the first frame in decode order that passes the test
abbrev pub first : (Frame → Bool) → List Frame → Option Place
first passes [] = None
first passes (frame ∷ frames) =
    if passes frame then Some (record { earlier = []; frame = frame; later = frames })
    else option_map (after_frame frame) (first passes frames)

-- the frame has this PicNum
abbrev pub has_pic_num : Sps → ℕ → ℤ → Frame → Bool
has_pic_num sps frame_num number frame = option_eq int_eq (pic_num sps frame_num frame) (Some number)

-- the frame has this LongTermPicNum
abbrev pub has_long_term_pic_num : ℕ → Frame → Bool
has_long_term_pic_num number frame = option_eq nat_eq (long_term_pic_num frame) (Some number)

-- the set without the frame at the place, or the fault where there is no such frame
abbrev pub freed : MarkFault → Marked → Option Place → Result Marked MarkFault
freed fault marked None = Err fault
freed fault marked (Some place) = Ok (record marked { frames = place.earlier ++ place.later })

-- the same by the index of the frame
abbrev pub without_at : MarkFault → Marked → Option ℕ → Result Marked MarkFault
without_at fault marked None = Err fault
without_at fault marked (Some at) = Ok (record marked { frames = remove marked.frames at })

-- operation 1
unfoldable pub short_term_freed : Sps → ℕ → ℕ → Marked → Result Marked MarkFault
short_term_freed sps frame_num difference marked =
    freed BadMarking marked (first (has_pic_num sps frame_num (pic_num_x frame_num difference)) marked.frames)

-- operation 2
unfoldable pub long_term_freed : ℕ → Marked → Result Marked MarkFault
long_term_freed number marked = freed BadMarking marked (first (has_long_term_pic_num number) marked.frames)

-- the index isn't above the greatest
abbrev pub allows_idx : Option ℕ → ℕ → Bool
allows_idx None idx = false
allows_idx (Some greatest) idx = nat_le idx greatest

-- the set in which the frame at the place has the index
abbrev pub assigned : ℕ → Marked → Option Place → Result Marked MarkFault
assigned idx marked None = Err BadMarking
assigned idx marked (Some place) =
    Ok (record marked { frames = without_idx idx place.earlier ++ as_long_term idx place.frame ∷ without_idx idx place.later })

-- operation 3
unfoldable pub long_term_assigned : Sps → ℕ → ℕ → ℕ → Marked → Result Marked MarkFault
long_term_assigned sps frame_num difference idx marked =
    if allows_idx marked.max_long_term_frame_idx idx
    then assigned idx marked (first (has_pic_num sps frame_num (pic_num_x frame_num difference)) marked.frames)
    else Err BadMarking

-- operation 4
unfoldable pub long_term_limited : Sps → ℕ → Marked → Result Marked MarkFault
long_term_limited sps plus1 marked =
    if nat_le plus1 sps.max_num_ref_frames
    then Ok (record { frames = filter (λ frame. is_below plus1 frame.term) marked.frames; max_long_term_frame_idx = max_idx plus1 })
    else Err BadMarking

-- operation 6, for the other frames
unfoldable pub holder_freed : ℕ → Marked → Result Marked MarkFault
holder_freed idx marked =
    if allows_idx marked.max_long_term_frame_idx idx then Ok (record marked { frames = without_idx idx marked.frames })
    else Err BadMarking

-- an operation
unfoldable pub operated : Sps → ℕ → MemoryManagementControlOperation → Marked → Result Marked MarkFault
operated sps frame_num (FreeShortTerm difference) marked = short_term_freed sps frame_num difference marked
operated sps frame_num (FreeLongTerm number) marked = long_term_freed number marked
operated sps frame_num (AssignLongTerm difference idx) marked = long_term_assigned sps frame_num difference idx marked
operated sps frame_num (LimitLongTerm plus1) marked = long_term_limited sps plus1 marked
operated sps frame_num FreeAll marked = Ok no_frames
operated sps frame_num (CurrentLongTerm idx) marked = Ok marked

-- the operations, one after the other
unfoldable pub all_operated : Sps → ℕ → List MemoryManagementControlOperation → Marked → Result Marked MarkFault
all_operated sps frame_num [] marked = Ok marked
all_operated sps frame_num (operation ∷ operations) marked =
    operated sps frame_num operation marked >>= all_operated sps frame_num operations

-- the short-term frame of this FrameNumWrap is freed
abbrev pub least_freed : Sps → ℕ → Marked → Option ℤ → Result Marked MarkFault
least_freed sps frame_num marked None = Err NoShortTerm
least_freed sps frame_num marked (Some number) = freed NoShortTerm marked (first (has_pic_num sps frame_num number) marked.frames)

-- the sliding window
unfoldable pub window_slid : Sps → ℕ → Marked → Result Marked MarkFault
window_slid sps frame_num marked =
    if length marked.frames == most_frames sps
    then least_freed sps frame_num marked (reduce int_min (filter_map (pic_num sps frame_num) marked.frames))
    else Ok marked

-- the current frame joins the others
unfoldable pub joined : Sps → Frame → Marked → Result Marked MarkFault
joined sps frame marked =
    if nat_lt (length marked.frames) (most_frames sps) then Ok (record marked { frames = marked.frames ++ frame ∷ [] })
    else Err TooManyReferences

-- the current frame joins the others, with the index of operation 6 or as a short-term frame
abbrev pub joined_as : Option ℕ → Sps → (Term → Frame) → Marked → Result Marked MarkFault
joined_as None sps current marked = joined sps (current ShortTerm) marked
joined_as (Some idx) sps current marked = holder_freed idx marked >>= joined sps (current (LongTerm idx))

-- adaptive memory control
unfoldable pub adaptively_marked : Sps → ℕ → List MemoryManagementControlOperation → (Term → Frame) → Marked → Result Marked MarkFault
adaptively_marked sps frame_num operations current marked =
    if contradict operations then Err BadMarking
    else (all_operated sps frame_num operations marked >>= joined_as (current_idx operations) sps current)

-- a reference picture
abbrev pub reference_marked : DecRefPicMarking → Sps → ℕ → (Term → Frame) → Marked → Result Marked MarkFault
reference_marked (Idr no_output_of_prior_pics_flag long_term_reference_flag) sps frame_num current marked =
    Ok (idr_marked long_term_reference_flag current)
reference_marked SlidingWindow sps frame_num current marked =
    window_slid sps frame_num marked >>= joined sps (current ShortTerm)
reference_marked (Adaptive operations) sps frame_num current marked = adaptively_marked sps frame_num operations current marked

-- the set of marked frames after a picture, or the fault
unfoldable pub marks_after : Marked → (id : ℕ) → Sps → SliceHeader → Counts → Result Marked MarkFault
marks_after marked id sps header counts =
    if is_reference header
    then reference_marked header.dec_ref_pic_marking sps header.frame_num (current_frame id header counts) marked
    else Ok marked
