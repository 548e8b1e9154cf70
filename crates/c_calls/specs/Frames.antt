-- The request of a whole picture, of a unit and of a job, and what is told of it
-- (V4L2_STATELESS_H264_DECODE_MODE_FRAME_BASED).
use Rattle.std.specs.Prelude.{◌≡◌, ◌⊎◌, ℕ, List, length, Bool, true, false, Option, None, Some, Result, Ok, Err}
use Rattle.std.specs.Option.{option_map}
use Rattle.unit_outcomes.specs.declared.outcome.Outcome.{Outcome}
use Rattle.unit_outcomes.specs.declared.outcome.Outcome.TheVariants as outcomes
use Rattle.h264_controls.specs.declared.request.Request.{Request}
use Rattle.frame_requests.specs.declared.joining.StartCode.{StartCode}
use Rattle.frame_requests.specs.declared.joining.StartCode.TheVariants.{AnnexB, Without}
use Rattle.frame_requests.specs.declared.request.FrameRequest.{FrameRequest}
use Rattle.frame_requests.specs.FrameBytes.{frame_bytes, frame_size}
use Rattle.frame_requests.specs.FrameRequests.{frame_request}
use Rattle.frame_requests.specs.FrameControlsLayout.{frame_controls_layout}
use Rattle.stream_session.specs.Streams.{outcome_in}
use Rattle.stream_session.specs.Taken.{input_of}
use Rattle.c_calls.specs.declared.frames.PictureRequest.{PictureRequest}
use Rattle.c_calls.specs.Filling.{Fills}
use Rattle.c_calls.specs.Machines.{InputValue, Machine}
use Rattle.c_calls.specs.Statuses.{memory, no_such_job, no_such_slice, no_such_unit, not_valid, several_slices}
use Rattle.c_calls.specs.Telling.{Tells, found_or}

-- the requests of the slices of a unit's outcome
abbrev pub slices_in : Option Outcome → Result (List Request) ℕ
slices_in (Some (outcomes.Plan plan)) = Ok plan.requests
slices_in (Some (outcomes.Fault fault)) = Err not_valid
slices_in (Some outcomes.Empty) = Err not_valid
slices_in None = Err no_such_unit

-- those of the unit of the id, as the stream is now
abbrev pub slices_of_unit : Machine → ℕ → Result (List Request) ℕ
slices_of_unit machine id = slices_in (outcome_in machine.register.stream id)

-- those of what a job is made of
abbrev pub slices_among : Option InputValue → Result (List Request) ℕ
slices_among (Some input) = Ok input.requests
slices_among None = Err no_such_job

-- those of the job of the number, as it was when the job was taken
abbrev pub slices_of_job : Machine → ℕ → Result (List Request) ℕ
slices_of_job machine number = slices_among (input_of machine number)

-- the request of the picture of these slices, as it is told
abbrev pub as_picture_request : List Request → FrameRequest → PictureRequest
as_picture_request slices frame = record {
  timestamp = frame.timestamp;
  bytes = frame_size slices;
  slices = length slices;
  sps = (frame_controls_layout frame).sps;
  pps = (frame_controls_layout frame).pps;
  scaling_matrix = (frame_controls_layout frame).scaling_matrix;
  decode_params = (frame_controls_layout frame).decode_params;
}

-- what is told of slices: each picture has one at least
abbrev pub frame_answer : Result (List Request) ℕ → Result PictureRequest ℕ
frame_answer (Ok slices) = found_or no_such_slice (option_map (as_picture_request slices) (frame_request slices))
frame_answer (Err why) = Err why

-- the request of their picture is told, or memory is refused
abbrev pub TellsFrame : Result (List Request) ℕ → ℕ → PictureRequest → PictureRequest → Type 0
TellsFrame slices status before after =
    Tells (frame_answer slices) status before after ⊎ ((status ≡ memory) × (after ≡ before))

-- with start codes or without
abbrev pub start_code_of : Bool → StartCode
start_code_of true = AnnexB
start_code_of false = Without

-- the bytes of their picture
abbrev pub bytes_of_frame : Result (List Request) ℕ → Bool → Result (List ℕ) ℕ
bytes_of_frame (Ok slices) start_codes = found_or several_slices (frame_bytes (start_code_of start_codes) slices)
bytes_of_frame (Err why) start_codes = Err why

-- bytes are written into a buffer
abbrev pub FillsWith : Result (List ℕ) ℕ → ℕ → List ℕ → List ℕ → ℕ → ℕ → Type 0
FillsWith (Ok bytes) status old new was needed = Fills bytes status old new needed
FillsWith (Err why) status old new was needed = (status ≡ why) × (new ≡ old) × (needed ≡ was)

-- the bytes of their picture are written into a buffer, or memory is refused
abbrev pub FillsFrame : Result (List Request) ℕ → Bool → ℕ → List ℕ → List ℕ → ℕ → ℕ → Type 0
FillsFrame slices start_codes status old new was needed =
    FillsWith (bytes_of_frame slices start_codes) status old new was needed
    ⊎ ((status ≡ memory) × (new ≡ old) × (needed ≡ was))
