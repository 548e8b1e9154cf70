-- The jobs that are out, as they were taken.
use Rattle.std.specs.Prelude.{ℕ, ◌==◌, List, Option, map, position, slice_get, option_and_then}
use Rattle.std.specs.Option.{option_map}
use Rattle.decode_jobs.specs.Inputs.{InputValue}
use Rattle.decode_jobs.specs.Jobs.{JobValue}
use Rattle.picture_store.specs.Stores.{OutValue}
use Rattle.stream_session.specs.Machines.{Machine}

module _ {P : Type 0} where
  -- a job that is out, as it was taken
  abbrev pub as_taken : OutValue P → JobValue P
  as_taken job = record { number = job.number; input = job.input }

  -- the jobs that are out, as they were taken
  abbrev pub taken_of : Machine P → List (JobValue P)
  taken_of machine = map as_taken machine.jobs_out

  -- what the job of the number is made of, if it is among these
  abbrev pub input_among : List (JobValue P) → ℕ → Option (InputValue P)
  input_among jobs number =
      option_map (λ job. job.input)
      (option_and_then (slice_get jobs) (position (λ job. job.number == number) jobs))

  -- what the job of the number is made of, as it was taken, if it is out
  abbrev pub input_of : Machine P → ℕ → Option (InputValue P)
  input_of machine number = input_among (taken_of machine) number
