use Rattle.std.proofs.Common.{◌≡◌, map, take}
use Rattle.h264_controls.specs.DecodeParamsControl.{dpb_entry}
use Rattle.h264_controls.proofs.v4l2_ctrl_h264_decode_params.dpb_entries.Given as goal

abbrev pub invariant-loop-frame : goal.invariant-loop-frame
invariant-loop-frame l = l.dpb ≡ map (dpb_entry l.sps l.frame_num) (take l.frame-index l.frames)
