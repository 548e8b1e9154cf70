-- A request as a JSON object (docs/OUTPUT.md).
use Rattle.std.specs.Prelude.{length, option_map}
use Rattle.h264_controls.specs.declared.request.Request.{Request}
use Rattle.frame_requests.specs.SpsLayout.{sps_layout}
use Rattle.frame_requests.specs.PpsLayout.{pps_layout}
use Rattle.frame_requests.specs.ScalingMatrixLayout.{scaling_matrix_layout}
use Rattle.frame_requests.specs.PredWeightsLayout.{pred_weights_layout}
use Rattle.frame_requests.specs.SliceParamsLayout.{slice_params_layout}
use Rattle.frame_requests.specs.DecodeParamsLayout.{decode_params_layout}
use Rattle.unit_printing.specs.declared.json.request_json.RequestJson.{RequestJson}

-- its timestamp, its flag, how many bytes its slice has, and the kernel's structs of its controls
abbrev pub request_json : Request → RequestJson
request_json request = record {
  timestamp = request.timestamp;
  hold_capture_buf = request.hold;
  bytes = length request.body.bytes;
  v4l2_ctrl_h264_sps = sps_layout request.body.controls.sets.sps;
  v4l2_ctrl_h264_pps = pps_layout request.body.controls.sets.pps;
  v4l2_ctrl_h264_scaling_matrix = scaling_matrix_layout request.body.controls.sets.scaling_matrix;
  v4l2_ctrl_h264_pred_weights = option_map pred_weights_layout request.body.controls.pred_weights;
  v4l2_ctrl_h264_slice_params = slice_params_layout request.body.controls.slice_params;
  v4l2_ctrl_h264_decode_params = decode_params_layout request.references request.body.controls.decode_params;
}
