-- The request of a whole picture, by those of its slices (V4L2_STATELESS_H264_DECODE_MODE_FRAME_BASED).
use Rattle.std.specs.Prelude.{List, Option, option_map, slice_get}
use Rattle.h264_controls.specs.declared.request.Request.{Request}
use Rattle.frame_requests.specs.declared.request.FrameRequest.{FrameRequest}
use Rattle.frame_requests.specs.FrameFlags.{frame_flags}

-- what the request of the first slice has, with the flags of all
abbrev pub frame_of : List Request → Request → FrameRequest
frame_of slices first = record {
  timestamp = first.timestamp;
  references = first.references;
  sets = first.body.controls.sets;
  decode_params = first.body.controls.decode_params;
  flags = frame_flags slices first;
}

-- the request of the picture of these slices; none of no slices
abbrev pub frame_request : List Request → Option FrameRequest
frame_request slices = option_map (frame_of slices) (slice_get slices 0)
