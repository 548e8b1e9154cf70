-- The controls of a picture's frame request (linux/v4l2-controls.h).
use Rattle.frame_requests.specs.declared.request.FrameRequest.{FrameRequest}
use Rattle.frame_requests.specs.FrameFlags.{frame_flags_number}
use Rattle.frame_requests.specs.declared.layouts.decode_params.DecodeParamsLayout.{DecodeParamsLayout}
use Rattle.frame_requests.specs.declared.layouts.frame_controls.FrameControlsLayout.{FrameControlsLayout}
use Rattle.frame_requests.specs.SpsLayout.{sps_layout}
use Rattle.frame_requests.specs.PpsLayout.{pps_layout}
use Rattle.frame_requests.specs.ScalingMatrixLayout.{scaling_matrix_layout}
use Rattle.frame_requests.specs.DecodeParamsLayout.{decode_params_layout}

-- the decode parameters of the first slice, with the picture's flags
abbrev pub frame_decode_params : FrameRequest → DecodeParamsLayout
frame_decode_params frame =
    record (decode_params_layout frame.references frame.decode_params) { flags = frame_flags_number frame.flags }

-- the kernel's structs of the four controls
abbrev pub frame_controls_layout : FrameRequest → FrameControlsLayout
frame_controls_layout frame = record {
  sps = sps_layout frame.sets.sps;
  pps = pps_layout frame.sets.pps;
  scaling_matrix = scaling_matrix_layout frame.sets.scaling_matrix;
  decode_params = frame_decode_params frame;
}
