-- Each step of marking has one outcome for each set: that of its function.
use Rattle.std.proofs.Common.{◌≡◌, ◌≤◌, ◌<◌, ◌++◌, ◌∷◌, ℕ, ℤ, Bool, true, false, eqb, nat_le, nat_lt, length, List, [], filter, filter_map, Option, Some, None, Result, Ok, Err, if◌then◌else◌, MatchBool, refl, sym, ◌∙◌, ap, subst, arith}
use Rattle.std.specs.Bool.{Decides}
use Rattle.std.specs.Int.{int_min}
use Rattle.std.specs.List.{reduce}
use Rattle.std.proofs.lemmas.Bool.{ltb-false, leb-false}
use Rattle.std.proofs.lemmas.Bool.Decides.{Decides-ltb, not_from_Decides}
use Rattle.std.proofs.lemmas.List.Elements.{All-weaker}
use Rattle.h264_types.specs.declared.param_sets.sps.Sps.{Sps}
use Rattle.h264_types.specs.declared.slice_headers.dec_ref_pic_marking.MemoryManagementControlOperation.{MemoryManagementControlOperation}
use Rattle.h264_types.specs.declared.slice_headers.dec_ref_pic_marking.MemoryManagementControlOperation.TheVariants.{FreeShortTerm, FreeLongTerm, AssignLongTerm, LimitLongTerm, FreeAll, CurrentLongTerm}
use Rattle.slice_decoding.specs.declared.ref_marking.fault.MarkFault.{MarkFault}
use Rattle.slice_decoding.specs.declared.ref_marking.fault.MarkFault.TheVariants.{BadMarking, NoShortTerm, TooManyReferences}
use Rattle.h264_types.specs.declared.pictures.frames.Frame.{Frame}
use Rattle.h264_types.specs.declared.pictures.frames.Term.{Term}
use Rattle.h264_types.specs.declared.pictures.frames.Term.TheVariants.{ShortTerm, LongTerm}
use Rattle.h264_types.specs.MarkedFrames.{Marked, most_frames, without_idx}
use Rattle.h264_types.specs.PicNums.{pic_num, long_term_pic_num}
use Rattle.slice_decoding.specs.Steps.{Step, Stays, Place, Frees}
use Rattle.slice_decoding.specs.SlidingWindow.{HasLeastFrameNumWrap, SlidesWindow}
use Rattle.slice_decoding.specs.Operations.{pic_num_x, IsShortTermNamed, FreesShortTerm, FreesLongTerm, Allows, AssignsLongTerm, max_idx, is_below, LimitsLongTerm, FreesHolder, Operates, OperatesAll}
use Rattle.slice_decoding.specs.Marking.{Joins, JoinsAs}
use Rattle.slice_decoding.specs.MarksAfter.{first, freed, has_pic_num, has_long_term_pic_num, short_term_freed, long_term_freed, allows_idx, assigned, long_term_assigned, long_term_limited, holder_freed, operated, all_operated, least_freed, window_slid, joined, joined_as}
use Rattle.slice_decoding.proofs.Firsts.{first_some, first_none, first_only, none_only}
use Rattle.slice_decoding.proofs.Outcomes.{Gives, outcome_holds, stays_gives, then_gives, frees_gives}
use Rattle.slice_decoding.proofs.Decisions.{has_pic_num_agrees, has_long_term_pic_num_agrees, le_decides, allows_decides}
use Rattle.slice_decoding.proofs.Leasts.{least_agrees, none_agrees}

pub short_term_freed_gives : (sps : Sps) (frame_num difference : ℕ) (before : Marked) → Gives (FreesShortTerm sps frame_num difference) before (short_term_freed sps frame_num difference before)
unfolding short_term_freed
short_term_freed_gives sps frame_num difference before =
    frees_gives (has_pic_num sps frame_num (pic_num_x frame_num difference)) (IsShortTermNamed sps frame_num difference) BadMarking before (has_pic_num_agrees sps frame_num (pic_num_x frame_num difference) before.frames)

pub long_term_freed_gives : (number : ℕ) (before : Marked) → Gives (FreesLongTerm number) before (long_term_freed number before)
unfolding long_term_freed
long_term_freed_gives number before =
    frees_gives (has_long_term_pic_num number) (λ frame. long_term_pic_num frame ≡ Some number) BadMarking before (has_long_term_pic_num_agrees number before.frames)

-- operation 3, by whether the index is allowed and where the frame is
assigned_holds : (sps : Sps) (frame_num difference idx : ℕ) (before : Marked) → Allows before idx → (found : Option Place) → first (has_pic_num sps frame_num (pic_num_x frame_num difference)) before.frames ≡ found
    → AssignsLongTerm sps frame_num difference idx before (assigned idx before found)
assigned_holds sps frame_num difference idx before allows None is =
    (refl, λ a. first_none (has_pic_num sps frame_num (pic_num_x frame_num difference)) (IsShortTermNamed sps frame_num difference) before.frames (has_pic_num_agrees sps frame_num (pic_num_x frame_num difference) before.frames) is)
assigned_holds sps frame_num difference idx before allows (Some place) is =
    (allows, (place, first_some (has_pic_num sps frame_num (pic_num_x frame_num difference)) (IsShortTermNamed sps frame_num difference) before.frames place (has_pic_num_agrees sps frame_num (pic_num_x frame_num difference) before.frames) is, refl))

assigned_only : (sps : Sps) (frame_num difference idx : ℕ) (before : Marked) → Allows before idx → (result : Result Marked MarkFault) → AssignsLongTerm sps frame_num difference idx before result
    → result ≡ assigned idx before (first (has_pic_num sps frame_num (pic_num_x frame_num difference)) before.frames)
assigned_only sps frame_num difference idx before allows (Ok after) h =
    ap (λ (m : Marked). Ok m) h.1.2 ∙ ap (assigned idx before) (sym (first_only (has_pic_num sps frame_num (pic_num_x frame_num difference)) (IsShortTermNamed sps frame_num difference) before.frames h.1.0 (has_pic_num_agrees sps frame_num (pic_num_x frame_num difference) before.frames) h.1.1))
assigned_only sps frame_num difference idx before allows (Err error) h =
    ap (λ (e : MarkFault). Err e) h.0 ∙ ap (assigned idx before) (sym (none_only (has_pic_num sps frame_num (pic_num_x frame_num difference)) (IsShortTermNamed sps frame_num difference) before.frames (has_pic_num_agrees sps frame_num (pic_num_x frame_num difference) before.frames) (h.1 allows)))

forbidden_only : (sps : Sps) (frame_num difference idx : ℕ) (before : Marked) → ¬ Allows before idx → (result : Result Marked MarkFault) → AssignsLongTerm sps frame_num difference idx before result → result ≡ Err BadMarking
forbidden_only sps frame_num difference idx before forbids (Ok after) h = absurd (forbids h.0)
forbidden_only sps frame_num difference idx before forbids (Err error) h = ap (λ (e : MarkFault). Err e) h.0

assigned_by : (sps : Sps) (frame_num difference idx : ℕ) (before : Marked) (allows : Bool) → Decides allows (Allows before idx)
    → Gives (AssignsLongTerm sps frame_num difference idx) before (if allows then assigned idx before (first (has_pic_num sps frame_num (pic_num_x frame_num difference)) before.frames) else Err BadMarking)
assigned_by sps frame_num difference idx before true decides = record {
  holds = assigned_holds sps frame_num difference idx before (decides.0 refl) (first (has_pic_num sps frame_num (pic_num_x frame_num difference)) before.frames) refl;
  only = assigned_only sps frame_num difference idx before (decides.0 refl);
}
assigned_by sps frame_num difference idx before false decides = record {
  holds = (refl, λ allows. absurd (not_from_Decides false decides refl allows));
  only = forbidden_only sps frame_num difference idx before (not_from_Decides false decides refl);
}

pub long_term_assigned_gives : (sps : Sps) (frame_num difference idx : ℕ) (before : Marked) → Gives (AssignsLongTerm sps frame_num difference idx) before (long_term_assigned sps frame_num difference idx before)
unfolding long_term_assigned
long_term_assigned_gives sps frame_num difference idx before =
    assigned_by sps frame_num difference idx before (allows_idx before.max_long_term_frame_idx idx) (allows_decides before.max_long_term_frame_idx idx)

-- a step that a test allows, and then gives this set
pub record IsTested (IsStep : Step) (before after : Marked) (fault : MarkFault) (Allowed Refused : Type 0) : Type 0 where
  pub to : Allowed → IsStep before (Ok after)
  pub from : (result : Marked) → IsStep before (Ok result) → Allowed × (result ≡ after)
  pub refuses : Refused → IsStep before (Err fault)
  pub refused : (error : MarkFault) → IsStep before (Err error) → Refused × (error ≡ fault)
  pub apart : Refused → ¬ Allowed

tested_only : (IsStep : Step) (before after : Marked) (fault : MarkFault) (Allowed Refused : Type 0) → IsTested IsStep before after fault Allowed Refused → (allowed : Bool) → Decides allowed Allowed → (allowed ≡ false → Refused)
    → (result : Result Marked MarkFault) → IsStep before result → result ≡ (if allowed then Ok after else Err fault)
tested_only IsStep before after fault Allowed Refused tested true decides refused (Ok set) h = ap (λ (m : Marked). Ok m) (tested.from set h).1
tested_only IsStep before after fault Allowed Refused tested true decides refused (Err error) h = absurd (tested.apart (tested.refused error h).0 (decides.0 refl))
tested_only IsStep before after fault Allowed Refused tested false decides refused (Ok set) h = absurd (not_from_Decides false decides refl (tested.from set h).0)
tested_only IsStep before after fault Allowed Refused tested false decides refused (Err error) h = ap (λ (e : MarkFault). Err e) (tested.refused error h).1

tested_holds : (IsStep : Step) (before after : Marked) (fault : MarkFault) (Allowed Refused : Type 0) → IsTested IsStep before after fault Allowed Refused → (allowed : Bool) → Decides allowed Allowed → (allowed ≡ false → Refused)
    → IsStep before (if allowed then Ok after else Err fault)
tested_holds IsStep before after fault Allowed Refused tested true decides refused = tested.to (decides.0 refl)
tested_holds IsStep before after fault Allowed Refused tested false decides refused = tested.refuses (refused refl)

tested_gives : (IsStep : Step) (before after : Marked) (fault : MarkFault) (Allowed Refused : Type 0) → IsTested IsStep before after fault Allowed Refused → (allowed : Bool) → Decides allowed Allowed → (allowed ≡ false → Refused)
    → Gives IsStep before (if allowed then Ok after else Err fault)
tested_gives IsStep before after fault Allowed Refused tested allowed decides refused = record {
  holds = tested_holds IsStep before after fault Allowed Refused tested allowed decides refused;
  only = tested_only IsStep before after fault Allowed Refused tested allowed decides refused;
}

pub long_term_limited_gives : (sps : Sps) (plus1 : ℕ) (before : Marked) → Gives (LimitsLongTerm sps plus1) before (long_term_limited sps plus1 before)
unfolding long_term_limited
long_term_limited_gives sps plus1 before =
    tested_gives (LimitsLongTerm sps plus1) before (record { frames = filter (λ frame. is_below plus1 frame.term) before.frames; max_long_term_frame_idx = max_idx plus1 }) BadMarking
    (plus1 ≤ sps.max_num_ref_frames) (sps.max_num_ref_frames < plus1)
    (record { to = λ h. (h, refl); from = λ result h. h; refuses = λ h. (refl, h); refused = λ error h. (h.1, h.0); apart = λ above below. absurd (omega arith) })
    (nat_le plus1 sps.max_num_ref_frames) (le_decides plus1 sps.max_num_ref_frames) (leb-false plus1 sps.max_num_ref_frames)

pub holder_freed_gives : (idx : ℕ) (before : Marked) → Gives (FreesHolder idx) before (holder_freed idx before)
unfolding holder_freed
holder_freed_gives idx before =
    tested_gives (FreesHolder idx) before (record before { frames = without_idx idx before.frames }) BadMarking (Allows before idx) (¬ Allows before idx)
    (record { to = λ h. (h, refl); from = λ result h. h; refuses = λ h. (refl, h); refused = λ error h. (h.1, h.0); apart = λ forbids. forbids })
    (allows_idx before.max_long_term_frame_idx idx) (allows_decides before.max_long_term_frame_idx idx) (λ is. not_from_Decides (allows_idx before.max_long_term_frame_idx idx) (allows_decides before.max_long_term_frame_idx idx) is)

pub joined_gives : (sps : Sps) (frame : Frame) (before : Marked) → Gives (Joins sps frame) before (joined sps frame before)
unfolding joined
joined_gives sps frame before =
    tested_gives (Joins sps frame) before (record before { frames = before.frames ++ frame ∷ [] }) TooManyReferences (length before.frames < most_frames sps) (most_frames sps ≤ length before.frames)
    (record { to = λ h. (h, refl); from = λ result h. h; refuses = λ h. (refl, h); refused = λ error h. (h.1, h.0); apart = λ above below. absurd (omega arith) })
    (nat_lt (length before.frames) (most_frames sps)) (Decides-ltb (length before.frames) (most_frames sps)) (ltb-false (length before.frames) (most_frames sps))

pub joined_as_gives : (idx : Option ℕ) (sps : Sps) (current : Term → Frame) (before : Marked) → Gives (JoinsAs idx sps current) before (joined_as idx sps current before)
joined_as_gives None sps current before = joined_gives sps (current ShortTerm) before
joined_as_gives (Some idx) sps current before =
    then_gives (FreesHolder idx) (Joins sps (current (LongTerm idx))) before (holder_freed idx before) (joined sps (current (LongTerm idx))) (holder_freed_gives idx before) (joined_gives sps (current (LongTerm idx)))

pub operated_gives : (sps : Sps) (frame_num : ℕ) (operation : MemoryManagementControlOperation) (before : Marked) → Gives (Operates sps frame_num operation) before (operated sps frame_num operation before)
unfolding operated
operated_gives sps frame_num (FreeShortTerm difference) before = short_term_freed_gives sps frame_num difference before
operated_gives sps frame_num (FreeLongTerm number) before = long_term_freed_gives number before
operated_gives sps frame_num (AssignLongTerm difference idx) before = long_term_assigned_gives sps frame_num difference idx before
operated_gives sps frame_num (LimitLongTerm plus1) before = long_term_limited_gives sps plus1 before
operated_gives sps frame_num FreeAll before = record { holds = refl; only = λ result is. is }
operated_gives sps frame_num (CurrentLongTerm idx) before = stays_gives before

pub all_operated_gives : (sps : Sps) (frame_num : ℕ) (operations : List MemoryManagementControlOperation) (before : Marked) → Gives (OperatesAll sps frame_num operations) before (all_operated sps frame_num operations before)
unfolding all_operated
all_operated_gives sps frame_num [] before = stays_gives before
all_operated_gives sps frame_num (operation ∷ operations) before =
    then_gives (Operates sps frame_num operation) (OperatesAll sps frame_num operations) before (operated sps frame_num operation before) (all_operated sps frame_num operations)
    (operated_gives sps frame_num operation before) (all_operated_gives sps frame_num operations)

-- a full window, by its least FrameNumWrap
full_gives : (sps : Sps) (frame_num : ℕ) (before : Marked) (least : Option ℤ) → reduce int_min (filter_map (pic_num sps frame_num) before.frames) ≡ least
    → Gives (Frees (HasLeastFrameNumWrap sps frame_num before.frames) NoShortTerm) before (least_freed sps frame_num before least)
full_gives sps frame_num before None is =
    let none = none_agrees sps frame_num before.frames is in
    let agrees = All-weaker (λ frame. ¬ HasLeastFrameNumWrap sps frame_num before.frames frame) (λ frame. Decides false (HasLeastFrameNumWrap sps frame_num before.frames frame)) (λ frame never. (λ is. cc, λ h. absurd (never h))) before.frames none in
    let gives = frees_gives (λ frame. false) (HasLeastFrameNumWrap sps frame_num before.frames) NoShortTerm before agrees in
    subst (λ found. Gives (Frees (HasLeastFrameNumWrap sps frame_num before.frames) NoShortTerm) before (freed NoShortTerm before found)) (none_only (λ frame. false) (HasLeastFrameNumWrap sps frame_num before.frames) before.frames agrees none) gives
full_gives sps frame_num before (Some number) is =
    frees_gives (has_pic_num sps frame_num number) (HasLeastFrameNumWrap sps frame_num before.frames) NoShortTerm before (least_agrees sps frame_num before.frames number is)

by_fullness : (sps : Sps) (frame_num : ℕ) (before : Marked) (full : Bool)
    → Gives (λ marked result. MatchBool full (Frees (HasLeastFrameNumWrap sps frame_num before.frames) NoShortTerm marked result) (Stays marked result)) before
    (if full then least_freed sps frame_num before (reduce int_min (filter_map (pic_num sps frame_num) before.frames)) else Ok before)
by_fullness sps frame_num before true =
    let gives = full_gives sps frame_num before (reduce int_min (filter_map (pic_num sps frame_num) before.frames)) refl in record { holds = gives.holds; only = gives.only }
by_fullness sps frame_num before false = record { holds = refl; only = λ result is. is }

pub window_slid_gives : (sps : Sps) (frame_num : ℕ) (before : Marked) → Gives (SlidesWindow sps frame_num) before (window_slid sps frame_num before)
unfolding window_slid
window_slid_gives sps frame_num before =
    let gives = by_fullness sps frame_num before (eqb (length before.frames) (most_frames sps)) in record { holds = gives.holds; only = gives.only }

-- an answer that is the function's is an outcome of the step
pub frees_short_term : (sps : Sps) (frame_num difference : ℕ) (before : Marked) (result : Result Marked MarkFault) → result ≡ short_term_freed sps frame_num difference before → FreesShortTerm sps frame_num difference before result
frees_short_term sps frame_num difference before result is = outcome_holds (FreesShortTerm sps frame_num difference) before _ result (short_term_freed_gives sps frame_num difference before) is

pub frees_long_term : (number : ℕ) (before : Marked) (result : Result Marked MarkFault) → result ≡ long_term_freed number before → FreesLongTerm number before result
frees_long_term number before result is = outcome_holds (FreesLongTerm number) before _ result (long_term_freed_gives number before) is

pub assigns_long_term : (sps : Sps) (frame_num difference idx : ℕ) (before : Marked) (result : Result Marked MarkFault) → result ≡ long_term_assigned sps frame_num difference idx before → AssignsLongTerm sps frame_num difference idx before result
assigns_long_term sps frame_num difference idx before result is = outcome_holds (AssignsLongTerm sps frame_num difference idx) before _ result (long_term_assigned_gives sps frame_num difference idx before) is

pub limits_long_term : (sps : Sps) (plus1 : ℕ) (before : Marked) (result : Result Marked MarkFault) → result ≡ long_term_limited sps plus1 before → LimitsLongTerm sps plus1 before result
limits_long_term sps plus1 before result is = outcome_holds (LimitsLongTerm sps plus1) before _ result (long_term_limited_gives sps plus1 before) is

pub slides_window : (sps : Sps) (frame_num : ℕ) (before : Marked) (result : Result Marked MarkFault) → result ≡ window_slid sps frame_num before → SlidesWindow sps frame_num before result
slides_window sps frame_num before result is = outcome_holds (SlidesWindow sps frame_num) before _ result (window_slid_gives sps frame_num before) is

pub joins : (sps : Sps) (frame : Frame) (before : Marked) (result : Result Marked MarkFault) → result ≡ joined sps frame before → Joins sps frame before result
joins sps frame before result is = outcome_holds (Joins sps frame) before _ result (joined_gives sps frame before) is

pub joins_as : (idx : Option ℕ) (sps : Sps) (current : Term → Frame) (before : Marked) (result : Result Marked MarkFault) → result ≡ joined_as idx sps current before → JoinsAs idx sps current before result
joins_as idx sps current before result is = outcome_holds (JoinsAs idx sps current) before _ result (joined_as_gives idx sps current before) is

pub operates : (sps : Sps) (frame_num : ℕ) (operation : MemoryManagementControlOperation) (before : Marked) (result : Result Marked MarkFault) → result ≡ operated sps frame_num operation before → Operates sps frame_num operation before result
operates sps frame_num operation before result is = outcome_holds (Operates sps frame_num operation) before _ result (operated_gives sps frame_num operation before) is

pub operates_all : (sps : Sps) (frame_num : ℕ) (operations : List MemoryManagementControlOperation) (before : Marked) (result : Result Marked MarkFault) → result ≡ all_operated sps frame_num operations before → OperatesAll sps frame_num operations before result
operates_all sps frame_num operations before result is = outcome_holds (OperatesAll sps frame_num operations) before _ result (all_operated_gives sps frame_num operations before) is
