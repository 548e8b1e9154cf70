-- The request of a whole picture as a JSON object (docs/OUTPUT.md).
use Rattle.std.specs.Prelude.{List}
use Rattle.h264_controls.specs.declared.request.Request.{Request}
use Rattle.frame_requests.specs.FrameBytes.{frame_size}
use Rattle.frame_requests.specs.declared.request.FrameRequest.{FrameRequest}
use Rattle.frame_requests.specs.FrameControlsLayout.{frame_decode_params}
use Rattle.frame_requests.specs.SpsLayout.{sps_layout}
use Rattle.frame_requests.specs.PpsLayout.{pps_layout}
use Rattle.frame_requests.specs.ScalingMatrixLayout.{scaling_matrix_layout}
use Rattle.unit_printing.specs.declared.json.frame_json.FrameJson.{FrameJson}

-- its timestamp, how many bytes its slices have, and the kernel's structs of its four controls
abbrev pub frame_json : List Request → FrameRequest → FrameJson
frame_json slices frame = record {
  timestamp = frame.timestamp;
  bytes = frame_size slices;
  v4l2_ctrl_h264_sps = sps_layout frame.sets.sps;
  v4l2_ctrl_h264_pps = pps_layout frame.sets.pps;
  v4l2_ctrl_h264_scaling_matrix = scaling_matrix_layout frame.sets.scaling_matrix;
  v4l2_ctrl_h264_decode_params = frame_decode_params frame;
}
