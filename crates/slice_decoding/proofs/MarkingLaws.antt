-- Marking has one outcome: that of `marks_after`.
use Rattle.std.proofs.Common.{◌≡◌, ℕ, Bool, true, false, List, Result, Ok, Err, if◌then◌else◌, MatchBool, refl}
use Rattle.h264_types.specs.declared.param_sets.sps.Sps.{Sps}
use Rattle.h264_types.specs.declared.slice_headers.slice_headers.SliceHeader.{SliceHeader}
use Rattle.h264_types.specs.declared.slice_headers.dec_ref_pic_marking.DecRefPicMarking.{DecRefPicMarking}
use Rattle.h264_types.specs.declared.slice_headers.dec_ref_pic_marking.DecRefPicMarking.TheVariants.{Idr, SlidingWindow, Adaptive}
use Rattle.h264_types.specs.declared.slice_headers.dec_ref_pic_marking.MemoryManagementControlOperation.{MemoryManagementControlOperation}
use Rattle.h264_types.specs.declared.pictures.counts.Counts.{Counts}
use Rattle.h264_types.specs.Pictures.{is_reference}
use Rattle.slice_decoding.specs.declared.ref_marking.fault.MarkFault.{MarkFault}
use Rattle.slice_decoding.specs.declared.ref_marking.fault.MarkFault.TheVariants.{BadMarking}
use Rattle.h264_types.specs.declared.pictures.frames.Frame.{Frame}
use Rattle.h264_types.specs.declared.pictures.frames.Term.{Term}
use Rattle.h264_types.specs.declared.pictures.frames.Term.TheVariants.{ShortTerm}
use Rattle.h264_types.specs.MarkedFrames.{Marked}
use Rattle.slice_decoding.specs.Steps.{Step, Stays, Then}
use Rattle.slice_decoding.specs.SlidingWindow.{SlidesWindow}
use Rattle.slice_decoding.specs.Operations.{OperatesAll}
use Rattle.slice_decoding.specs.Marking.{current_frame, Joins, JoinsAs, contradict, current_idx, MarksAdaptively, MarksReference, MarksPicture}
use Rattle.slice_decoding.specs.MarksAfter.{window_slid, joined, joined_as, all_operated, adaptively_marked, reference_marked, marks_after}
use Rattle.slice_decoding.proofs.Outcomes.{Gives, outcome_holds, then_gives}
use Rattle.slice_decoding.proofs.StepLaws.{window_slid_gives, joined_gives, joined_as_gives, all_operated_gives}

-- either of two steps, by a test
by_test : (One Two : Step) (before : Marked) (one two : Result Marked MarkFault) (test : Bool) → Gives One before one → Gives Two before two
    → Gives (λ marked result. MatchBool test (One marked result) (Two marked result)) before (if test then one else two)
by_test One Two before one two true first second = record { holds = first.holds; only = first.only }
by_test One Two before one two false first second = record { holds = second.holds; only = second.only }

pub adaptively_marked_gives : (sps : Sps) (frame_num : ℕ) (operations : List MemoryManagementControlOperation) (current : Term → Frame) (before : Marked)
    → Gives (MarksAdaptively sps frame_num operations current) before (adaptively_marked sps frame_num operations current before)
unfolding adaptively_marked
adaptively_marked_gives sps frame_num operations current before =
    let refused : Gives (λ marked result. result ≡ Err BadMarking) before (Err BadMarking) = record { holds = refl; only = λ result is. is } in
    let done = then_gives (OperatesAll sps frame_num operations) (JoinsAs (current_idx operations) sps current) before (all_operated sps frame_num operations before) (joined_as (current_idx operations) sps current)
    (all_operated_gives sps frame_num operations before) (joined_as_gives (current_idx operations) sps current) in
    let gives = by_test (λ marked result. result ≡ Err BadMarking) (Then (OperatesAll sps frame_num operations) (JoinsAs (current_idx operations) sps current)) before _ _ (contradict operations) refused done in
    record { holds = gives.holds; only = gives.only }

pub reference_marked_gives : (marking : DecRefPicMarking) (sps : Sps) (frame_num : ℕ) (current : Term → Frame) (before : Marked)
    → Gives (MarksReference marking sps frame_num current) before (reference_marked marking sps frame_num current before)
reference_marked_gives (Idr no_output_of_prior_pics_flag long_term_reference_flag) sps frame_num current before = record { holds = refl; only = λ result is. is }
reference_marked_gives SlidingWindow sps frame_num current before =
    let gives = then_gives (SlidesWindow sps frame_num) (Joins sps (current ShortTerm)) before (window_slid sps frame_num before) (joined sps (current ShortTerm)) (window_slid_gives sps frame_num before) (joined_gives sps (current ShortTerm)) in
    record { holds = gives.holds; only = gives.only }
reference_marked_gives (Adaptive operations) sps frame_num current before =
    let gives = adaptively_marked_gives sps frame_num operations current before in record { holds = gives.holds; only = gives.only }

pub marks_after_gives : (id : ℕ) (sps : Sps) (header : SliceHeader) (counts : Counts) (before : Marked) → Gives (MarksPicture id sps header counts) before (marks_after before id sps header counts)
unfolding marks_after
marks_after_gives id sps header counts before =
    let stays : Gives Stays before (Ok before) = record { holds = refl; only = λ result is. is } in
    let gives = by_test (MarksReference header.dec_ref_pic_marking sps header.frame_num (current_frame id header counts)) Stays before _ _ (is_reference header)
    (reference_marked_gives header.dec_ref_pic_marking sps header.frame_num (current_frame id header counts) before) stays in
    record { holds = gives.holds; only = gives.only }

-- a marking that has the function's outcome is one
pub marks : (id : ℕ) (sps : Sps) (header : SliceHeader) (counts : Counts) (before : Marked) (result : Result Marked MarkFault) → result ≡ marks_after before id sps header counts → MarksPicture id sps header counts before result
marks id sps header counts before result is = outcome_holds (MarksPicture id sps header counts) before _ result (marks_after_gives id sps header counts before) is

-- every marking has the function's outcome
pub marks_only : (id : ℕ) (sps : Sps) (header : SliceHeader) (counts : Counts) (before : Marked) (result : Result Marked MarkFault) → MarksPicture id sps header counts before result → result ≡ marks_after before id sps header counts
marks_only id sps header counts before result h = (marks_after_gives id sps header counts before).only result h
