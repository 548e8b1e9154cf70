-- Adaptive memory control decoded reference picture marking process (ITU-T H.264, 8.2.5.4): each operation.
use Rattle.std.specs.Prelude.{◌≡◌, ◌<◌, ◌≤◌, ◌++◌, ◌∷◌, ◌+◌, ℕ, zero, suc, ℤ, pos, ◌-ℤ◌, Bool, true, nat_lt, List, [], All, filter, Option, Some, None, IsSomeAnd, Ok, Err}
use Rattle.h264_types.specs.declared.param_sets.sps.Sps.{Sps}
use Rattle.h264_types.specs.declared.slice_headers.dec_ref_pic_marking.MemoryManagementControlOperation.{MemoryManagementControlOperation}
use Rattle.h264_types.specs.declared.slice_headers.dec_ref_pic_marking.MemoryManagementControlOperation.TheVariants.{FreeShortTerm, FreeLongTerm, AssignLongTerm, LimitLongTerm, FreeAll, CurrentLongTerm}
use Rattle.slice_decoding.specs.declared.ref_marking.fault.MarkFault.TheVariants.{BadMarking}
use Rattle.h264_types.specs.declared.pictures.frames.Frame.{Frame}
use Rattle.h264_types.specs.declared.pictures.frames.Term.{Term}
use Rattle.h264_types.specs.declared.pictures.frames.Term.TheVariants.{ShortTerm, LongTerm}
use Rattle.h264_types.specs.MarkedFrames.{Marked, no_frames, without_idx, as_long_term}
use Rattle.h264_types.specs.PicNums.{pic_num, long_term_pic_num, curr_pic_num}
use Rattle.slice_decoding.specs.Steps.{Step, Stays, Then, Place, IsFirst, Frees}

-- picNumX (8-39)
abbrev pub pic_num_x : (frame_num difference_of_pic_nums_minus1 : ℕ) → ℤ
pic_num_x frame_num difference = curr_pic_num frame_num -ℤ pos (difference + 1)

-- the short-term frame that operations 1 and 3 name
abbrev pub IsShortTermNamed : Sps → (frame_num difference : ℕ) → Frame → Type 0
IsShortTermNamed sps frame_num difference frame = pic_num sps frame_num frame ≡ Some (pic_num_x frame_num difference)

-- 1: a short-term frame is freed (8.2.5.4.1)
abbrev pub FreesShortTerm : Sps → (frame_num difference : ℕ) → Step
FreesShortTerm sps frame_num difference = Frees (IsShortTermNamed sps frame_num difference) BadMarking

-- 2: a long-term frame is freed (8.2.5.4.2)
abbrev pub FreesLongTerm : ℕ → Step
FreesLongTerm number = Frees (λ frame. long_term_pic_num frame ≡ Some number) BadMarking

-- an index that a frame may have: it isn't above MaxLongTermFrameIdx
abbrev pub Allows : Marked → ℕ → Type 0
Allows marked idx = IsSomeAnd marked.max_long_term_frame_idx (λ greatest. idx ≤ greatest)

-- 3: a short-term frame becomes long-term in its place, and another frame that holds the index is freed (8.2.5.4.3)
abbrev pub AssignsLongTerm : Sps → (frame_num difference idx : ℕ) → Step
AssignsLongTerm sps frame_num difference idx before (Ok after) =
    Allows before idx × ((place : Place) × IsFirst (IsShortTermNamed sps frame_num difference) before.frames place
    × (after ≡ record before { frames = without_idx idx place.earlier ++ as_long_term idx place.frame ∷ without_idx idx place.later }))
AssignsLongTerm sps frame_num difference idx before (Err error) =
    (error ≡ BadMarking) × (Allows before idx → All (λ frame. ¬ IsShortTermNamed sps frame_num difference frame) before.frames)

-- MaxLongTermFrameIdx from max_long_term_frame_idx_plus1
abbrev pub max_idx : ℕ → Option ℕ
max_idx zero = None
max_idx (suc greatest) = Some greatest

-- a short-term frame, or a long-term frame whose index is below the number
abbrev pub is_below : ℕ → Term → Bool
is_below plus1 ShortTerm = true
is_below plus1 (LongTerm idx) = nat_lt idx plus1

-- 4: the greatest index is set, and long-term frames above it are freed (8.2.5.4.4)
abbrev pub LimitsLongTerm : Sps → ℕ → Step
LimitsLongTerm sps plus1 before (Ok after) =
    (plus1 ≤ sps.max_num_ref_frames)
    × (after ≡ record { frames = filter (λ frame. is_below plus1 frame.term) before.frames; max_long_term_frame_idx = max_idx plus1 })
LimitsLongTerm sps plus1 before (Err error) = (error ≡ BadMarking) × (sps.max_num_ref_frames < plus1)

-- 5: all frames are freed, and there are no indices (8.2.5.4.5)
abbrev pub FreesAll : Step
FreesAll before result = result ≡ Ok no_frames

-- 6: another frame that holds the index of the current frame is freed (8.2.5.4.6)
abbrev pub FreesHolder : ℕ → Step
FreesHolder idx before (Ok after) = Allows before idx × (after ≡ record before { frames = without_idx idx before.frames })
FreesHolder idx before (Err error) = (error ≡ BadMarking) × ¬ Allows before idx

-- an operation; 6 takes effect once the others have
abbrev pub Operates : Sps → ℕ → MemoryManagementControlOperation → Step
Operates sps frame_num (FreeShortTerm difference) = FreesShortTerm sps frame_num difference
Operates sps frame_num (FreeLongTerm number) = FreesLongTerm number
Operates sps frame_num (AssignLongTerm difference idx) = AssignsLongTerm sps frame_num difference idx
Operates sps frame_num (LimitLongTerm plus1) = LimitsLongTerm sps plus1
Operates sps frame_num FreeAll = FreesAll
Operates sps frame_num (CurrentLongTerm idx) = Stays

-- the operations, one after the other
abbrev pub OperatesAll : Sps → ℕ → List MemoryManagementControlOperation → Step
OperatesAll sps frame_num [] = Stays
OperatesAll sps frame_num (operation ∷ operations) = Then (Operates sps frame_num operation) (OperatesAll sps frame_num operations)
