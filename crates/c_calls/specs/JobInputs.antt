-- What a job that is out is made of, as it is told.
use Rattle.std.specs.Prelude.{◌/◌, ℕ, List, [], ◌∷◌, length, Option, None, Some, Result, Err, slice_get}
use Rattle.std.specs.Option.{option_map}
use Rattle.h264_controls.specs.declared.request.Request.{Request}
use Rattle.decode_jobs.specs.declared.input.Reference.{Reference}
use Rattle.decode_jobs.specs.declared.surfaces.surface.Surface.{Surface}
use Rattle.c_calls.specs.declared.job_inputs.JobInput.{JobInput}
use Rattle.c_calls.specs.declared.job_inputs.JobReference.{JobReference}
use Rattle.c_calls.specs.Machines.{InputValue}
use Rattle.c_calls.specs.Statuses.{no_such_job, no_such_place}
use Rattle.c_calls.specs.Telling.{found_or}

-- the unit of requests, by the timestamp that they have; 0 where there is none
abbrev pub unit_of : List Request → ℕ
unit_of [] = 0
unit_of (request ∷ more) = request.timestamp / 1000

-- what a job is made of, as it is told
abbrev pub as_job_input : InputValue → JobInput
as_job_input input =
    record { unit = unit_of input.requests; slices = length input.requests; references = length input.references }

-- that of a job, where it is out
abbrev pub input_answer : Option InputValue → Result JobInput ℕ
input_answer input = found_or no_such_job (option_map as_job_input input)

-- a reference, as it is told
abbrev pub as_job_reference : Reference Surface → JobReference
as_job_reference reference = record { timestamp = reference.timestamp; surface = reference.picture.handle }

-- a reference of a job
abbrev pub reference_answer : Option InputValue → ℕ → Result JobReference ℕ
reference_answer (Some input) index =
    found_or no_such_place (option_map as_job_reference (slice_get input.references index))
reference_answer None index = Err no_such_job
