-- Marked frames in a line (docs/OUTPUT.md).
use Rattle.std.specs.Prelude.{ℕ, ◌++◌, List, codes}
use Rattle.h264_controls.specs.DecodeParamsControl.{dpb_entry}
use Rattle.h264_types.specs.declared.pictures.frames.Frame.{Frame}
use Rattle.h264_types.specs.declared.param_sets.sps.Sps.{Sps}
use Rattle.unit_printing.specs.Lines.{entry_text}

-- a marked frame, as a picture of this frame_num sees it
abbrev pub frame_text : Sps → ℕ → Frame → List ℕ
frame_text sps frame_num frame = entry_text (frame.id, dpb_entry sps frame_num frame)

-- a frame after another
abbrev pub next_frame_text : Sps → ℕ → Frame → List ℕ
next_frame_text sps frame_num frame = codes "," ++ frame_text sps frame_num frame
