-- The frames that are marked after a picture are frames that were marked before it, and its own
-- (ITU-T H.264, 8.2.5).
use Rattle.std.proofs.Common.{ℕ, Bool, true, false, not, List, [], ◌∷◌, ◌++◌, All, filter, Option, None, Some, IfSome, Result, Ok, Err, IfOk, if◌then◌else◌}
use Rattle.std.specs.Prelude.{ℤ, ◌==◌, nat_le, nat_lt, length, filter_map, option_map}
use Rattle.std.specs.Int.{int_min}
use Rattle.std.specs.List.{reduce}
use Rattle.std.proofs.lemmas.List.Elements.{All-nil, All-cons, All-head, All-tail, All-append, All-push, All-filter}
use Rattle.h264_types.specs.Chains.{◌>>=◌}
use Rattle.h264_types.specs.declared.param_sets.sps.Sps.{Sps}
use Rattle.h264_types.specs.declared.slice_headers.slice_headers.SliceHeader.{SliceHeader}
use Rattle.h264_types.specs.declared.slice_headers.dec_ref_pic_marking.DecRefPicMarking.{DecRefPicMarking}
use Rattle.h264_types.specs.declared.slice_headers.dec_ref_pic_marking.DecRefPicMarking.TheVariants.{Idr, SlidingWindow, Adaptive}
use Rattle.h264_types.specs.declared.slice_headers.dec_ref_pic_marking.MemoryManagementControlOperation.{MemoryManagementControlOperation}
use Rattle.h264_types.specs.declared.slice_headers.dec_ref_pic_marking.MemoryManagementControlOperation.TheVariants.{FreeShortTerm, FreeLongTerm, AssignLongTerm, LimitLongTerm, FreeAll, CurrentLongTerm}
use Rattle.h264_types.specs.Pictures.{is_reference}
use Rattle.h264_types.specs.declared.pictures.counts.Counts.{Counts}
use Rattle.h264_types.specs.declared.pictures.frames.Frame.{Frame}
use Rattle.h264_types.specs.declared.pictures.frames.Term.{Term}
use Rattle.h264_types.specs.declared.pictures.frames.Term.TheVariants.{ShortTerm, LongTerm}
use Rattle.h264_types.specs.MarkedFrames.{Marked, most_frames, holds, without_idx, as_long_term}
use Rattle.h264_types.specs.PicNums.{pic_num}
use Rattle.slice_decoding.specs.declared.ref_marking.fault.MarkFault.{MarkFault}
use Rattle.slice_decoding.specs.declared.ref_marking.fault.MarkFault.TheVariants.{BadMarking, NoShortTerm, TooManyReferences}
use Rattle.slice_decoding.specs.Steps.{Place}
use Rattle.slice_decoding.specs.Operations.{pic_num_x, max_idx, is_below}
use Rattle.slice_decoding.specs.Marking.{current_frame, idr_marked, contradict, current_idx}
use Rattle.slice_decoding.specs.MarksAfter.{after_frame, first, has_pic_num, allows_idx, freed, short_term_freed, long_term_freed, assigned, long_term_assigned, long_term_limited, holder_freed, operated, all_operated, least_freed, window_slid, joined, joined_as, adaptively_marked, reference_marked, marks_after}

-- what holds of the ids of frames
module _ (P : ℕ → Type 0) where
  abbrev Q : Frame → Type 0
  Q frame = P frame.id

  -- it holds of the frames that are marked then
  abbrev IsKept : Result Marked MarkFault → Type 0
  IsKept result = IfOk result (λ marks. All Q marks.frames)

  if_kept : (test : Bool) (one two : Result Marked MarkFault) → IsKept one → IsKept two → IsKept (if test then one else two)
  if_kept true one two first second = first
  if_kept false one two first second = second

  then_kept : (result : Result Marked MarkFault) (next : Marked → Result Marked MarkFault) → IsKept result
      → ((marks : Marked) → All Q marks.frames → IsKept (next marks)) → IsKept (result >>= next)
  then_kept (Ok marks) next kept each = each marks kept
  then_kept (Err fault) next kept each = tt

  -- it holds of a frame among others, and of those
  record Holds (place : Place) : Type 0 where
    before : All Q place.earlier
    here : Q place.frame
    after : All Q place.later

  if_holds : (test : Bool) (one two : Option Place) → IfSome one Holds → IfSome two Holds → IfSome (if test then one else two) Holds
  if_holds true one two first second = first
  if_holds false one two first second = second

  after_holds : (frame : Frame) (place : Option Place) → Q frame → IfSome place Holds → IfSome (option_map (after_frame frame) place) Holds
  after_holds frame None here holds = tt
  after_holds frame (Some place) here holds = record {
    before = All-cons Q frame place.earlier here holds.before;
    here = holds.here;
    after = holds.after;
  }

  first_holds : (test : Frame → Bool) (frames : List Frame) → All Q frames → IfSome (first test frames) Holds
  first_holds test [] all = tt
  first_holds test (frame ∷ frames) all =
      let here = All-head Q frame frames all in
      let later = All-tail Q frame frames all in
      if_holds (test frame) (Some (record { earlier = []; frame = frame; later = frames })) (option_map (after_frame frame) (first test frames))
      (record { before = All-nil Q; here = here; after = later })
      (after_holds frame (first test frames) here (first_holds test frames later))

  freed_kept : (fault : MarkFault) (marks : Marked) (place : Option Place) → IfSome place Holds → IsKept (freed fault marks place)
  freed_kept fault marks None holds = tt
  freed_kept fault marks (Some place) holds = All-append Q place.earlier place.later holds.before holds.after

  first_freed : (fault : MarkFault) (marks : Marked) (test : Frame → Bool) → All Q marks.frames → IsKept (freed fault marks (first test marks.frames))
  first_freed fault marks test all = freed_kept fault marks (first test marks.frames) (first_holds test marks.frames all)

  without_idx_kept : (idx : ℕ) (frames : List Frame) → All Q frames → All Q (without_idx idx frames)
  without_idx_kept idx frames all = All-filter (λ frame. not (holds idx frame.term)) Q frames all

  assigned_kept : (idx : ℕ) (marks : Marked) (place : Option Place) → IfSome place Holds → IsKept (assigned idx marks place)
  assigned_kept idx marks None holds = tt
  assigned_kept idx marks (Some place) holds =
      All-append Q (without_idx idx place.earlier) (as_long_term idx place.frame ∷ without_idx idx place.later)
      (without_idx_kept idx place.earlier holds.before)
      (All-cons Q (as_long_term idx place.frame) (without_idx idx place.later) holds.here (without_idx_kept idx place.later holds.after))

  operated_kept : (sps : Sps) (frame_num : ℕ) (operation : MemoryManagementControlOperation) (marks : Marked) → All Q marks.frames
      → IsKept (operated sps frame_num operation marks)
  unfolding operated short_term_freed long_term_freed long_term_assigned long_term_limited
  operated_kept sps frame_num (FreeShortTerm difference) marks all = first_freed BadMarking marks _ all
  operated_kept sps frame_num (FreeLongTerm number) marks all = first_freed BadMarking marks _ all
  operated_kept sps frame_num (AssignLongTerm difference idx) marks all =
      let named = has_pic_num sps frame_num (pic_num_x frame_num difference) in
      if_kept (allows_idx marks.max_long_term_frame_idx idx) (assigned idx marks (first named marks.frames)) (Err BadMarking)
      (assigned_kept idx marks (first named marks.frames) (first_holds named marks.frames all)) tt
  operated_kept sps frame_num (LimitLongTerm plus1) marks all =
      let below = λ (frame : Frame). is_below plus1 frame.term in
      if_kept (nat_le plus1 sps.max_num_ref_frames) (Ok (record { frames = filter below marks.frames; max_long_term_frame_idx = max_idx plus1 })) (Err BadMarking)
      (All-filter below Q marks.frames all) tt
  operated_kept sps frame_num FreeAll marks all = All-nil Q
  operated_kept sps frame_num (CurrentLongTerm idx) marks all = all

  all_operated_kept : (sps : Sps) (frame_num : ℕ) (operations : List MemoryManagementControlOperation) (marks : Marked) → All Q marks.frames
      → IsKept (all_operated sps frame_num operations marks)
  unfolding all_operated
  all_operated_kept sps frame_num [] marks all = all
  all_operated_kept sps frame_num (operation ∷ operations) marks all =
      then_kept (operated sps frame_num operation marks) (all_operated sps frame_num operations)
      (operated_kept sps frame_num operation marks all) (all_operated_kept sps frame_num operations)

  least_kept : (sps : Sps) (frame_num : ℕ) (marks : Marked) (least : Option ℤ) → All Q marks.frames → IsKept (least_freed sps frame_num marks least)
  least_kept sps frame_num marks None all = tt
  least_kept sps frame_num marks (Some number) all = first_freed NoShortTerm marks (has_pic_num sps frame_num number) all

  window_kept : (sps : Sps) (frame_num : ℕ) (marks : Marked) → All Q marks.frames → IsKept (window_slid sps frame_num marks)
  unfolding window_slid
  window_kept sps frame_num marks all =
      let least = reduce int_min (filter_map (pic_num sps frame_num) marks.frames) in
      if_kept (length marks.frames == most_frames sps) (least_freed sps frame_num marks least) (Ok marks) (least_kept sps frame_num marks least all) all

  joined_kept : (sps : Sps) (frame : Frame) → Q frame → (marks : Marked) → All Q marks.frames → IsKept (joined sps frame marks)
  unfolding joined
  joined_kept sps frame here marks all =
      if_kept (nat_lt (length marks.frames) (most_frames sps)) (Ok (record marks { frames = marks.frames ++ frame ∷ [] })) (Err TooManyReferences)
      (All-push Q marks.frames frame all here) tt

  module _ (current : Term → Frame) (own : (term : Term) → Q (current term)) where
    joined_as_kept : (idx : Option ℕ) (sps : Sps) (marks : Marked) → All Q marks.frames → IsKept (joined_as idx sps current marks)
    unfolding holder_freed
    joined_as_kept None sps marks all = joined_kept sps (current ShortTerm) (own ShortTerm) marks all
    joined_as_kept (Some idx) sps marks all =
        then_kept (holder_freed idx marks) (joined sps (current (LongTerm idx)))
        (if_kept (allows_idx marks.max_long_term_frame_idx idx) (Ok (record marks { frames = without_idx idx marks.frames })) (Err BadMarking)
        (without_idx_kept idx marks.frames all) tt)
        (joined_kept sps (current (LongTerm idx)) (own (LongTerm idx)))

    idr_kept : (long_term : Bool) → All Q (idr_marked long_term current).frames
    idr_kept true = All-cons Q (current (LongTerm 0)) [] (own (LongTerm 0)) (All-nil Q)
    idr_kept false = All-cons Q (current ShortTerm) [] (own ShortTerm) (All-nil Q)

    reference_kept : (marking : DecRefPicMarking) (sps : Sps) (frame_num : ℕ) (marks : Marked) → All Q marks.frames
        → IsKept (reference_marked marking sps frame_num current marks)
    unfolding adaptively_marked
    reference_kept (Idr no_output long_term) sps frame_num marks all = idr_kept long_term
    reference_kept SlidingWindow sps frame_num marks all =
        then_kept (window_slid sps frame_num marks) (joined sps (current ShortTerm)) (window_kept sps frame_num marks all)
        (joined_kept sps (current ShortTerm) (own ShortTerm))
    reference_kept (Adaptive operations) sps frame_num marks all =
        let joins = joined_as (current_idx operations) sps current in
        if_kept (contradict operations) (Err BadMarking) (all_operated sps frame_num operations marks >>= joins) tt
        (then_kept (all_operated sps frame_num operations marks) joins
        (all_operated_kept sps frame_num operations marks all) (joined_as_kept (current_idx operations) sps))

  -- what holds of the frames before a picture and of its own holds of those after it
  pub marks_after_kept : (marks : Marked) (id : ℕ) (sps : Sps) (header : SliceHeader) (counts : Counts) → All (λ frame. P frame.id) marks.frames
      → P id → IfOk (marks_after marks id sps header counts) (λ after. All (λ frame. P frame.id) after.frames)
  unfolding marks_after
  marks_after_kept marks id sps header counts all own =
      if_kept (is_reference header) (reference_marked header.dec_ref_pic_marking sps header.frame_num (current_frame id header counts) marks) (Ok marks)
      (reference_kept (current_frame id header counts) (λ term. own) header.dec_ref_pic_marking sps header.frame_num marks all) all
