-- Jobs of a session, as a server's results.
use Rattle.std.specs.Prelude.{◌≡◌, ◌⊎◌, ℕ, Option, None, Some, Result, Ok, Err}
use Rattle.stand_in_device.specs.Inputs.{InputValue}
use Rattle.picture_store.specs.declared.answers.Landing.{Landing}
use Rattle.picture_store.specs.declared.answers.Returning.{Returning}
use Rattle.picture_store.specs.declared.answers.TakeRefused.{TakeRefused}
use Rattle.picture_store.specs.declared.answers.TakeRefused.TheVariants.{JobsSpent}
use Rattle.stand_in_session.specs.declared.replies.NotOut.{NotOut}
use Rattle.stand_in_session.specs.declared.replies.TakenJob.{TakenJob}
use Rattle.stand_in_session.specs.Machines.{Machine}
use Rattle.stand_in_session.specs.Runs.{TakesJob, TakesJobFor, LandsJob, GivesJobBack}
use Rattle.stream_session.specs.Taken.{input_of}
use Rattle.serve_requests.specs.declared.failure.Failure.{Failure}
use Rattle.serve_requests.specs.declared.failure.Failure.TheVariants.{Refused}
use Rattle.serve_requests.specs.declared.failure.CallRefusal.TheVariants as refusal
use Rattle.serve_answers.specs.declared.answer.Answer.{Answer}
use Rattle.serve_answers.specs.declared.answer.Answer.TheVariants.{Job}
use Rattle.serve_answers.specs.JobAnswers.{job_answer}
use Rattle.serve_answers.specs.Replies.{give_back_answer, land_answer}
use Rattle.serve_calls.specs.Failing.{out_of_memory}

-- an answer to one who asks for a job: for the unit of an id, or for any
abbrev pub TakesOne : Option ℕ → Machine → Result (Option TakenJob) TakeRefused → Machine → Type 0
TakesOne (Some id) old answer new = TakesJobFor old id answer new
TakesOne None old answer new = TakesJob old answer new

-- the result of a job that is taken: the job with what it is made of; or there is no memory to tell
-- it, and it is given back then
abbrev pub TellsJob : TakenJob → Machine → Result Answer Failure → Machine → Type 0
TellsJob taken old result new =
    ((input : InputValue) × (input_of old taken.number ≡ Some input) × (new ≡ old)
    × (result ≡ Ok (Job (Some (job_answer taken.number taken.unit input)))))
    ⊎ ((answer : Result Returning NotOut) × GivesJobBack old taken.number answer new × (result ≡ Err out_of_memory))

-- the result of one who asks for a job: the job; null where no picture is due; that all numbers
-- were given; or that memory ran out and nothing changed
abbrev pub TakesAs : Option ℕ → Machine → Result Answer Failure → Machine → Type 0
TakesAs id old result new =
    ((taken : TakenJob) × (between : Machine) × TakesOne id old (Ok (Some taken)) between
    × TellsJob taken between result new)
    ⊎ (TakesOne id old (Ok None) new × (result ≡ Ok (Job None)))
    ⊎ (TakesOne id old (Err JobsSpent) new × (result ≡ Err (Refused refusal.JobsSpent)))
    ⊎ ((new ≡ old) × (result ≡ Err out_of_memory))

-- the result of the job of the number that lands, or that memory ran out and nothing changed
abbrev pub LandsAs : ℕ → Machine → Result Answer Failure → Machine → Type 0
LandsAs number old result new =
    ((answer : Result Landing NotOut) × LandsJob old number answer new × (result ≡ Ok (land_answer answer)))
    ⊎ ((new ≡ old) × (result ≡ Err out_of_memory))

-- the result of the job of the number that is given back
abbrev pub GivesBackAs : ℕ → Machine → Result Answer Failure → Machine → Type 0
GivesBackAs number old result new =
    (answer : Result Returning NotOut) × GivesJobBack old number answer new × (result ≡ Ok (give_back_answer answer))
