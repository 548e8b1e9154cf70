-- What a runner replies to one who asks for a job.
use Rattle.std.specs.Prelude.{◌≡◌, ◌⊎◌, ℕ, Option, None, Result, Ok, Err}
use Rattle.picture_store.specs.declared.answers.TakeRefused.{TakeRefused}
use Rattle.picture_store.specs.declared.answers.TakeRefused.TheVariants.{JobsSpent, Memory}
use Rattle.stand_in_session.specs.declared.replies.Reply.{Reply}
use Rattle.stand_in_session.specs.declared.replies.Reply.TheVariants as replies
use Rattle.stand_in_session.specs.declared.replies.TakenJob.{TakenJob}
use Rattle.stand_in_session.specs.Machines.{Machine}
use Rattle.serve_requests.specs.declared.failure.Failure.{Failure}
use Rattle.serve_requests.specs.declared.failure.Failure.TheVariants.{Refused}
use Rattle.serve_requests.specs.declared.failure.CallRefusal.TheVariants as refusal
use Rattle.serve_calls.specs.Failing.{out_of_memory}
use Rattle.serve_calls.specs.Jobs.{TakesOne}

-- the job that is taken, if a picture was due, or the failure
abbrev pub taken_of : Result (Option TakenJob) TakeRefused → Result (Option TakenJob) Failure
taken_of (Ok taken) = Ok taken
taken_of (Err JobsSpent) = Err (Refused refusal.JobsSpent)
taken_of (Err Memory) = Err out_of_memory

-- the job of a reply to one who asks for a job
abbrev pub taken_in : Reply → Result (Option TakenJob) Failure
taken_in (replies.Take answer) = taken_of answer
taken_in (replies.TakeFor answer) = taken_of answer
taken_in reply = Ok None

-- a job is taken, or the failure is said; or memory ran out and nothing changed
abbrev pub TakesReply : Option ℕ → Machine → Result (Option TakenJob) Failure → Machine → Type 0
TakesReply id old told new =
    ((answer : Result (Option TakenJob) TakeRefused) × TakesOne id old answer new × (told ≡ taken_of answer))
    ⊎ ((new ≡ old) × (told ≡ Err out_of_memory))
