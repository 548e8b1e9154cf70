-- The requests of a unit, as the stream is now, and of a job, as they were when it was taken; and
-- what is told of them.
use Rattle.std.specs.Prelude.{◌≡◌, ℕ, List, length, is_some, Option, None, Some, Result, Ok, Err, slice_get}
use Rattle.std.specs.Option.{option_map}
use Rattle.unit_outcomes.specs.declared.outcome.Outcome.{Outcome}
use Rattle.unit_outcomes.specs.declared.outcome.Outcome.TheVariants as outcomes
use Rattle.h264_controls.specs.declared.request.Request.{Request}
use Rattle.frame_requests.specs.SpsLayout.{sps_layout}
use Rattle.frame_requests.specs.PpsLayout.{pps_layout}
use Rattle.frame_requests.specs.ScalingMatrixLayout.{scaling_matrix_layout}
use Rattle.frame_requests.specs.PredWeightsLayout.{pred_weights_layout}
use Rattle.frame_requests.specs.SliceParamsLayout.{slice_params_layout}
use Rattle.frame_requests.specs.DecodeParamsLayout.{decode_params_layout}
use Rattle.frame_requests.specs.declared.layouts.pred_weights.PredWeightsLayout.{PredWeightsLayout}
use Rattle.c_calls.specs.Machines.{InputValue, Machine}
use Rattle.stream_session.specs.Streams.{outcome_in}
use Rattle.stream_session.specs.Taken.{input_of}
use Rattle.c_calls.specs.declared.requests.SliceRequest.{SliceRequest}
use Rattle.c_calls.specs.Filling.{Fills}
use Rattle.c_calls.specs.Statuses.{no_such_job, no_such_slice, no_such_unit, no_weights, not_valid}
use Rattle.c_calls.specs.Telling.{flag, found_or}

-- the request of a slice of a unit's outcome
abbrev pub request_in : Option Outcome → ℕ → Result Request ℕ
request_in (Some (outcomes.Plan plan)) slice = found_or no_such_slice (slice_get plan.requests slice)
request_in (Some (outcomes.Fault fault)) slice = Err not_valid
request_in (Some outcomes.Empty) slice = Err not_valid
request_in None slice = Err no_such_unit

-- the request of a slice of the unit of the id, as the stream is now
abbrev pub request_of_unit : Machine → ℕ → ℕ → Result Request ℕ
request_of_unit machine id slice = request_in (outcome_in machine.register.stream id) slice

-- the request of a slice of what a job is made of
abbrev pub request_among : Option InputValue → ℕ → Result Request ℕ
request_among (Some input) slice = found_or no_such_slice (slice_get input.requests slice)
request_among None slice = Err no_such_job

-- the request of a slice of the job of the number, as it was when the job was taken
abbrev pub request_of_job : Machine → ℕ → ℕ → Result Request ℕ
request_of_job machine number slice = request_among (input_of machine number) slice

-- a request, as it is told: the unit begins after its start code of three bytes
abbrev pub request_layout : Request → SliceRequest
request_layout request = record {
  timestamp = request.timestamp;
  bytes = length request.body.bytes;
  unit_begins = 3;
  hold = flag request.hold;
  has_weights = flag (is_some request.body.controls.pred_weights);
  pps = pps_layout request.body.controls.sets.pps;
  sps = sps_layout request.body.controls.sets.sps;
  scaling_matrix = scaling_matrix_layout request.body.controls.sets.scaling_matrix;
  slice_params = slice_params_layout request.body.controls.slice_params;
  decode_params = decode_params_layout request.references request.body.controls.decode_params;
}

-- what is found, told so
abbrev pub laid_out : {A B : Type 0} → (A → B) → Result A ℕ → Result B ℕ
laid_out form (Ok value) = Ok (form value)
laid_out form (Err why) = Err why

-- the weight table of a request
abbrev pub weights_of : Result Request ℕ → Result PredWeightsLayout ℕ
weights_of (Ok request) = found_or no_weights (option_map pred_weights_layout request.body.controls.pred_weights)
weights_of (Err why) = Err why

-- the bytes of a request are written into a buffer
abbrev pub FillsFrom : Result Request ℕ → ℕ → List ℕ → List ℕ → ℕ → ℕ → Type 0
FillsFrom (Ok request) status old new was needed = Fills request.body.bytes status old new needed
FillsFrom (Err why) status old new was needed = (status ≡ why) × (new ≡ old) × (needed ≡ was)
