-- Sliding window decoded reference picture marking process (ITU-T H.264, 8.2.5.3).
use Rattle.std.specs.Prelude.{◌≡◌, ℕ, ℤ, ◌≤ℤ◌, ◌==◌, List, length, All, Some, IfSome, MatchBool}
use Rattle.h264_types.specs.declared.param_sets.sps.Sps.{Sps}
use Rattle.slice_decoding.specs.declared.ref_marking.fault.MarkFault.TheVariants.{NoShortTerm}
use Rattle.h264_types.specs.declared.pictures.frames.Frame.{Frame}
use Rattle.h264_types.specs.MarkedFrames.{most_frames}
use Rattle.h264_types.specs.PicNums.{pic_num}
use Rattle.slice_decoding.specs.Steps.{Step, Stays, Frees}

-- a short-term frame, and none has a smaller FrameNumWrap, which is PicNum
abbrev pub HasLeastFrameNumWrap : Sps → ℕ → List Frame → Frame → Type 0
HasLeastFrameNumWrap sps frame_num frames frame =
    (least : ℤ) × (pic_num sps frame_num frame ≡ Some least)
    × All (λ other. IfSome (pic_num sps frame_num other) (λ number. least ≤ℤ number)) frames

-- where as many frames are marked as may be, the short-term frame of the smallest FrameNumWrap is freed
abbrev pub SlidesWindow : Sps → ℕ → Step
SlidesWindow sps frame_num before result =
    MatchBool (length before.frames == most_frames sps)
    (Frees (HasLeastFrameNumWrap sps frame_num before.frames) NoShortTerm before result)
    (Stays before result)
