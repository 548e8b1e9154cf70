-- Jobs, and what is told of them.
use Rattle.std.specs.Prelude.{◌≡◌, ℕ, Option, None, Some, IfSome, Result, Ok, Err}
use Rattle.picture_store.specs.declared.answers.TakeRefused.{TakeRefused}
use Rattle.picture_store.specs.declared.answers.TakeRefused.TheVariants as refusals
use Rattle.picture_store.specs.declared.answers.Landing.{Landing}
use Rattle.picture_store.specs.declared.answers.Landing.TheVariants as landings
use Rattle.picture_store.specs.declared.answers.Returning.{Returning}
use Rattle.picture_store.specs.declared.answers.Returning.TheVariants as returnings
use Rattle.stream_session.specs.Jobs.{AnswersGiveBackOf, AnswersLandOf, AnswersTakeWithUnit}
use Rattle.stream_session.specs.Needing.{AnswersTakeWithUnitFor}
use Rattle.stream_session.specs.Taken.{input_of}
use Rattle.decode_jobs.specs.Host.{IsMadeByHost}
use Rattle.c_calls.specs.declared.jobs.JobTaken.{JobTaken}
use Rattle.c_calls.specs.Machines.{IsPicture, JobValue, Machine}
use Rattle.c_calls.specs.Statuses.{done, memory, jobs_spent, no_such_job, nothing_due, stale}
use Rattle.c_calls.specs.Telling.{Tells}

-- a unit and the job that makes its picture, or why none is given
abbrev pub Taken : Type 0
Taken = Result (Option (ℕ × JobValue)) TakeRefused

-- an answer to one who asks for a job, as it is told
abbrev pub as_taken : Taken → Result JobTaken ℕ
as_taken (Ok (Some taken)) = Ok (record { number = taken.1.number; unit = taken.0 })
as_taken (Ok None) = Err nothing_due
as_taken (Err refusals.JobsSpent) = Err jobs_spent
as_taken (Err refusals.Memory) = Err memory

-- a job is taken and told, or it is said why none is
abbrev pub TakesTo : Machine → ℕ → JobTaken → JobTaken → Machine → Type 0
TakesTo old status before after new =
    (answer : Taken) × AnswersTakeWithUnit IsPicture old answer new × Tells (as_taken answer) status before after

-- a job is taken for the unit of the id and told, or it is said why none is
abbrev pub TakesForTo : Machine → ℕ → ℕ → JobTaken → JobTaken → Machine → Type 0
TakesForTo old id status before after new =
    (answer : Taken) × AnswersTakeWithUnitFor IsPicture old id answer new × Tells (as_taken answer) status before after

-- what became of a picture of a job, as it is told
abbrev pub landing_status : Landing → ℕ
landing_status landings.Taken = done
landing_status landings.Stale = stale
landing_status landings.Foreign = no_such_job

-- what whoever lands the surface owes: the host's decoder made it of what the job of the number was
-- given
abbrev pub IsMadeFor : Machine → ℕ → ℕ → Type 0
IsMadeFor machine number surface =
    IfSome (input_of machine number) (λ input. IsMadeByHost input (record { handle = surface }))

-- the surface lands as a picture of the job of the number
abbrev pub LandsTo : Machine → ℕ → ℕ → ℕ → Machine → Type 0
LandsTo old number surface status new =
    (answer : Landing) × AnswersLandOf old number (record { handle = surface }) answer new
    × (status ≡ landing_status answer)

-- what became of a job that is given back, as it is told
abbrev pub returning_status : Returning → ℕ
returning_status returnings.Returned = done
returning_status returnings.Foreign = no_such_job

-- the job of the number is given back
abbrev pub GivesBackTo : Machine → ℕ → ℕ → Machine → Type 0
GivesBackTo old number status new =
    (answer : Returning) × AnswersGiveBackOf old number answer new × (status ≡ returning_status answer)
