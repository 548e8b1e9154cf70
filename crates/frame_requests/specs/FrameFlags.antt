-- The flags of a picture's decode parameters (linux/v4l2-controls.h, V4L2_H264_DECODE_PARAM_FLAG_*; ITU-T H.264, table 7-6).
use Rattle.std.specs.Prelude.{ℕ, ◌+◌, ◌&&◌, Bool, true, false, not, List}
use Rattle.std.specs.List.{list_any}
use Rattle.h264_types.specs.declared.slice_headers.slice_types.SliceType.{SliceType}
use Rattle.h264_types.specs.declared.slice_headers.slice_types.SliceType.TheVariants.{P, B}
use Rattle.h264_controls.specs.declared.request.Request.{Request}
use Rattle.param_set_controls.specs.Words.{flag}
use Rattle.frame_requests.specs.declared.flags.FrameFlags.{FrameFlags}

abbrev pub is_p_type : SliceType → Bool
is_p_type P = true
is_p_type _ = false

abbrev pub is_b_type : SliceType → Bool
is_b_type B = true
is_b_type _ = false

-- whether the slice of a request is a P slice
abbrev pub is_p : Request → Bool
is_p slice = is_p_type slice.body.controls.slice_params.slice_type

-- whether it is a B slice
abbrev pub is_b : Request → Bool
is_b slice = is_b_type slice.body.controls.slice_params.slice_type

-- BFRAME where a slice is B, PFRAME where a slice is P and none is B; IDR_PIC is the first slice's
abbrev pub frame_flags : List Request → Request → FrameFlags
frame_flags slices first = record {
  idr_pic = first.body.controls.decode_params.flags.idr_pic;
  pframe = list_any is_p slices && not (list_any is_b slices);
  bframe = list_any is_b slices;
}

-- the flags as a number
abbrev pub frame_flags_number : FrameFlags → ℕ
frame_flags_number flags = flag 1 flags.idr_pic + flag 8 flags.pframe + flag 16 flags.bframe
