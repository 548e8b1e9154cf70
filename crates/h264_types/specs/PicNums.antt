-- The numbers of marked frames, for a picture of this frame_num (ITU-T H.264, 8.2.4.1).
use Rattle.std.specs.Prelude.{ℕ, ℤ, pos, ◌-ℤ◌, nat_lt, if◌then◌else◌, Option, Some, None}
use Rattle.h264_types.specs.declared.param_sets.sps.Sps.{Sps}
use Rattle.h264_types.specs.FrameNumbers.{max_frame_num}
use Rattle.h264_types.specs.declared.pictures.frames.Frame.{Frame}
use Rattle.h264_types.specs.declared.pictures.frames.Term.{Term}
use Rattle.h264_types.specs.declared.pictures.frames.Term.TheVariants.{ShortTerm, LongTerm}

-- FrameNumWrap of a FrameNum: a greater one belongs to the round before (8-27)
abbrev pub frame_num_wrap : Sps → (frame_num : ℕ) → ℕ → ℤ
frame_num_wrap sps frame_num number =
    if nat_lt frame_num number then pos number -ℤ pos (max_frame_num sps) else pos number

-- PicNum of a short-term frame is its FrameNumWrap (8-28)
abbrev pub pic_num_of : Term → ℤ → Option ℤ
pic_num_of ShortTerm wrap = Some wrap
pic_num_of (LongTerm idx) wrap = None

-- PicNum of a frame; a long-term frame has none
abbrev pub pic_num : Sps → (frame_num : ℕ) → Frame → Option ℤ
pic_num sps frame_num frame = pic_num_of frame.term (frame_num_wrap sps frame_num frame.frame_num)

-- LongTermPicNum of a long-term frame is its LongTermFrameIdx (8-29)
abbrev pub long_term_pic_num_of : Term → Option ℕ
long_term_pic_num_of ShortTerm = None
long_term_pic_num_of (LongTerm idx) = Some idx

-- LongTermPicNum of a frame; a short-term frame has none
abbrev pub long_term_pic_num : Frame → Option ℕ
long_term_pic_num frame = long_term_pic_num_of frame.term

-- CurrPicNum (8.2.4.1)
abbrev pub curr_pic_num : (frame_num : ℕ) → ℤ
curr_pic_num frame_num = pos frame_num
