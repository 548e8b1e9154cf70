-- The requests of a picture (Linux media documentation, stateless codec controls for H.264 in
-- slice-based mode).
use Rattle.std.specs.Prelude.{ℕ, Bool, true, false, List, [], ◌∷◌, ◌++◌, Option, option_map}
use Rattle.annexb.specs.ByteStream.{start_code}
use Rattle.h264_types.specs.declared.pictures.counts.Counts.{Counts}
use Rattle.h264_types.specs.declared.pictures.frames.Frame.{Frame}
use Rattle.h264_controls.specs.declared.controls.Controls.{Controls}
use Rattle.h264_controls.specs.declared.request.Request.{Request}
use Rattle.h264_controls.specs.declared.request.RequestBody.{RequestBody}
use Rattle.param_set_controls.specs.SetControls.{set_controls}
use Rattle.h264_controls.specs.PredWeightsControl.{pred_weights_control}
use Rattle.h264_controls.specs.SliceParamsControl.{slice_params_control}
use Rattle.h264_controls.specs.DecodeParamsControl.{decode_params_control}
use Rattle.h264_controls.specs.References.{references, timestamp}
use Rattle.slice_reading.specs.Slices.{SliceRead}

-- a slice with its reference lists
pub record ListedSlice : Type 0 where
  pub slice : SliceRead
  pub list_0 : List (Option ℕ)
  pub list_1 : List (Option ℕ)

-- the controls of a slice, filled before the marking of its picture, which has these counts
abbrev pub controls_of : List Frame → Counts → ListedSlice → Controls
controls_of frames counts listed = record {
  sets = set_controls listed.slice.sps listed.slice.pps;
  pred_weights = option_map (pred_weights_control listed.slice.sps) listed.slice.header.pred_weight_table;
  slice_params = slice_params_control listed.slice.header listed.list_0 listed.list_1;
  decode_params = decode_params_control frames listed.slice.sps listed.slice.header counts;
}

-- the body of a slice
abbrev pub body_of : List Frame → Counts → ListedSlice → RequestBody
body_of frames counts listed = record {
  controls = controls_of frames counts listed;
  bytes = start_code ++ listed.slice.nal;
}

-- the request of a slice; hold says that more slices follow
abbrev pub request_of : List Frame → Counts → ℕ → ListedSlice → Bool → Request
request_of frames counts id listed hold = record {
  body = body_of frames counts listed;
  timestamp = timestamp id;
  references = references frames listed.slice.header;
  hold = hold;
}

-- one request for each slice, with the capture buffer held on all but the last
abbrev pub requests_of : List Frame → Counts → ℕ → List ListedSlice → List Request
requests_of frames counts id [] = []
requests_of frames counts id (last ∷ []) = request_of frames counts id last false ∷ []
requests_of frames counts id (listed ∷ more) =
    request_of frames counts id listed true ∷ requests_of frames counts id more
