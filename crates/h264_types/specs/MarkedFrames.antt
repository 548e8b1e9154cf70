-- The frames that are marked as used for reference (ITU-T H.264, 8.2.5.1).
use Rattle.std.specs.Prelude.{ℕ, Bool, false, max, not, ◌==◌, List, [], filter, Option, None, pos}
use Rattle.h264_types.specs.declared.param_sets.sps.Sps.{Sps}
use Rattle.h264_types.specs.declared.pictures.frames.Frame.{Frame}
use Rattle.h264_types.specs.declared.pictures.frames.Term.{Term}
use Rattle.h264_types.specs.declared.pictures.frames.Term.TheVariants.{ShortTerm, LongTerm}

-- a frame before its fields are known
abbrev pub default_frame : Frame
default_frame = record { id = 0; frame_num = 0; term = ShortTerm; counts = record { top = pos 0; bottom = pos 0 } }

-- the marked frames in decode order, and MaxLongTermFrameIdx, or None for "no long-term frame indices"
pub record Marked : Type 0 where
  pub frames : List Frame
  pub max_long_term_frame_idx : Option ℕ

-- what is marked before the first picture
abbrev pub no_frames : Marked
no_frames = record { frames = []; max_long_term_frame_idx = None }

-- how many frames may be marked
abbrev pub most_frames : Sps → ℕ
most_frames sps = max sps.max_num_ref_frames 1

-- a long-term frame of this LongTermFrameIdx
abbrev pub holds : ℕ → Term → Bool
holds idx ShortTerm = false
holds idx (LongTerm held) = held == idx

-- the frames but for those that hold an index
abbrev pub without_idx : ℕ → List Frame → List Frame
without_idx idx frames = filter (λ frame. not (holds idx frame.term)) frames

-- the frame with this term
abbrev pub with_term : Frame → Term → Frame
with_term frame term = record frame { term = term }

-- the frame as a long-term frame of this LongTermFrameIdx
abbrev pub as_long_term : ℕ → Frame → Frame
as_long_term idx frame = with_term frame (LongTerm idx)
