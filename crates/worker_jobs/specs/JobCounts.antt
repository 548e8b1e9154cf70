-- What a worker has in hand and counts.
use Rattle.std.specs.Prelude.{◌≡◌, ◌⊎◌, ℕ, ◌+◌, List, [], ◌∷◌, ◌++◌, Bool, true, false, Option, None, Some, Result, Ok, Err}
use Rattle.decode_jobs.specs.Inputs.{InputValue}
use Rattle.decode_jobs.specs.Jobs.{JobValue}
use Rattle.decode_jobs.specs.declared.decoded.Decoded.{Ghosts}
use Rattle.picture_store.specs.declared.answers.Landing.{Landing}
use Rattle.picture_store.specs.declared.answers.Landing.TheVariants as landings
use Rattle.picture_store.specs.declared.answers.Returning.{Returning}
use Rattle.picture_store.specs.declared.answers.Returning.TheVariants as returnings
use Rattle.picture_store.specs.declared.answers.TakeRefused.{TakeRefused}
use Rattle.picture_store.specs.declared.answers.TakeRefused.TheVariants as refusals
use Rattle.stream_session.specs.Machines.{Machine}
use Rattle.stream_session.specs.Jobs.{AnswersGiveBack, AnswersLand, AnswersTake}
use Rattle.worker_jobs.specs.Taking.{AnswersTakeFirst}
use Rattle.worker_jobs.specs.declared.worker_queue.JobCounts.{JobCounts}
use Rattle.worker_jobs.specs.declared.worker_queue.WorkerQueue.{WorkerQueue}

-- before the first job
abbrev pub none_brought : JobCounts
none_brought = record { taken = 0; stale = 0; foreign = 0; returned = 0 }

-- a result is counted by its outcome
abbrev pub with_landing : Landing → JobCounts → JobCounts
with_landing landings.Taken counts = record counts { taken = counts.taken + 1 }
with_landing landings.Stale counts = record counts { stale = counts.stale + 1 }
with_landing landings.Foreign counts = record counts { foreign = counts.foreign + 1 }

-- a job that is given back is counted by its outcome
abbrev pub with_returning : Returning → JobCounts → JobCounts
with_returning returnings.Returned counts = record counts { returned = counts.returned + 1 }
with_returning returnings.Foreign counts = record counts { foreign = counts.foreign + 1 }

module _ {P : Type 0} where
  -- the pictures that came too late: one more where it isn't taken
  abbrev pub with_late : Landing → P → List P → List P
  with_late landings.Taken picture late = late
  with_late landings.Stale picture late = late ++ picture ∷ []
  with_late landings.Foreign picture late = late ++ picture ∷ []

  -- what is made of an input is what the pictures' relation says of it
  abbrev pub IsFaithful : (InputValue P → P → Type 0) → (InputValue P → P → Type 0) → Type 0
  IsFaithful IsDecoded Makes = (input : InputValue P) (picture : P) → Makes input picture → IsDecoded input picture

module _ {P : Type 0} {decoded : Ghosts P} where
  -- the same is in hand, and the same was counted
  pub record IsSame (old new : WorkerQueue P decoded) : Type 0 where
    pub jobs : new.jobs.items ≡ old.jobs.items
    pub results : new.results.items ≡ old.results.items
    pub late : new.late.items ≡ old.late.items
    pub counts : new.counts ≡ old.counts

  -- a job is in hand behind the others
  pub record HasMore (old : WorkerQueue P decoded) (job : JobValue P) (new : WorkerQueue P decoded) : Type 0 where
    pub jobs : new.jobs.items ≡ old.jobs.items ++ job ∷ []
    pub results : new.results.items ≡ old.results.items
    pub late : new.late.items ≡ old.late.items
    pub counts : new.counts ≡ old.counts

  -- a worker has the job in hand that a session answered, and tells whether it did
  abbrev pub Keeps : WorkerQueue P decoded → Result (Option (JobValue P)) TakeRefused → Result Bool TakeRefused → WorkerQueue P decoded → Type 0
  Keeps old (Ok (Some job)) kept new = (kept ≡ Ok true) × HasMore old job new
  Keeps old (Ok None) kept new = (kept ≡ Ok false) × IsSame old new
  Keeps old (Err refused) kept new = (kept ≡ Err refused) × IsSame old new

  -- a worker asks a session for a job, and has the one that it is given in hand; or there is none, or
  -- the session refuses, or there is no room in hand and the session isn't asked, and nothing changes
  -- in hand
  abbrev pub TakesIn : Machine P → WorkerQueue P decoded → Result Bool TakeRefused → Machine P → WorkerQueue P decoded → Type 0
  TakesIn from old (Ok true) to new =
      (job : JobValue P) × AnswersTake decoded.IsOf from (Ok (Some job)) to × HasMore old job new
  TakesIn from old (Ok false) to new = AnswersTake decoded.IsOf from (Ok None) to × IsSame old new
  TakesIn from old (Err refused) to new =
      (AnswersTake decoded.IsOf from (Err refused) to ⊎ ((refused ≡ refusals.Memory) × (to ≡ from))) × IsSame old new

  -- the same of a worker that asks for a job for the first of these ids for which a needed unit is
  -- due
  abbrev pub TakesFirstIn : Machine P → List ℕ → WorkerQueue P decoded → Result Bool TakeRefused → Machine P → WorkerQueue P decoded → Type 0
  TakesFirstIn from ids old (Ok true) to new =
      (job : JobValue P) × AnswersTakeFirst decoded.IsOf from ids (Ok (Some job)) to × HasMore old job new
  TakesFirstIn from ids old (Ok false) to new = AnswersTakeFirst decoded.IsOf from ids (Ok None) to × IsSame old new
  TakesFirstIn from ids old (Err refused) to new =
      (AnswersTakeFirst decoded.IsOf from ids (Err refused) to ⊎ ((refused ≡ refusals.Memory) × (to ≡ from)))
      × IsSame old new

  -- the first result in hand lands in a session, and is counted; a picture of its job that isn't
  -- taken is kept
  pub record LandsIn (from : Machine P) (old : WorkerQueue P decoded) (landing : Landing) (to : Machine P) (new : WorkerQueue P decoded)
      : Type 0 where
    pub job : JobValue P
    pub first : old.results.items ≡ job ∷ new.results.items
    pub lands : AnswersLand decoded.IsDecoded from job landing to
    pub counted : new.counts ≡ with_landing landing old.counts
    pub jobs : new.jobs.items ≡ old.jobs.items
    pub picture : P
    pub made : decoded.IsDecoded job.input picture
    pub late : new.late.items ≡ with_late landing picture old.late.items

  -- the first job in hand is given back to a session, and is counted
  pub record GivesBackIn (from : Machine P) (old : WorkerQueue P decoded) (returning : Returning) (to : Machine P) (new : WorkerQueue P decoded)
      : Type 0 where
    pub job : JobValue P
    pub first : old.jobs.items ≡ job ∷ new.jobs.items
    pub returns : AnswersGiveBack from job returning to
    pub counted : new.counts ≡ with_returning returning old.counts
    pub results : new.results.items ≡ old.results.items
    pub late : new.late.items ≡ old.late.items
