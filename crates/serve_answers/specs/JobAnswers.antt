-- A job as a result (docs/SERVER.md).
use Rattle.std.specs.Prelude.{ℕ, map}
use Rattle.base64.specs.Engines.{standard}
use Rattle.base64.specs.GeneralPurpose.{encode_of}
use Rattle.hex.specs.Hex.{encode_lower}
use Rattle.h264_controls.specs.declared.request.Request.{Request}
use Rattle.stand_in_device.specs.Inputs.{InputValue}
use Rattle.stand_in_device.specs.Inputs.{Reference}
use Rattle.unit_printing.specs.RequestsJson.{request_json}
use Rattle.serve_answers.specs.declared.job_answers.JobAnswer.{JobAnswer}
use Rattle.serve_answers.specs.declared.job_answers.ReferenceAnswer.{ReferenceAnswer}
use Rattle.serve_answers.specs.declared.job_answers.RequestAnswer.{RequestAnswer}

-- a request, with its slice's bytes as base64
abbrev pub request_answer : Request → RequestAnswer
request_answer request = record {
  request = request_json request;
  text = encode_of standard request.body.bytes;
}

-- a picture that a job needs
abbrev pub reference_answer : Reference → ReferenceAnswer
reference_answer reference = record {
  timestamp = reference.timestamp;
  picture = encode_lower reference.picture.digest;
}

-- the job of a number, taken for a unit
abbrev pub job_answer : ℕ → ℕ → InputValue → JobAnswer
job_answer number unit input = record {
  job = number;
  unit = unit;
  requests = map request_answer input.requests;
  references = map reference_answer input.references;
}
