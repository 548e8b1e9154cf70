-- Several steps of a session, one after the other, while a worker has the lock.
use Rattle.std.specs.Prelude.{◌≡◌, ◌≢◌, ◌⊎◌, List, [], ◌∷◌, false, true, None, Some, Ok, Err}
use Rattle.decode_jobs.specs.Inputs.{InputValue}
use Rattle.decode_jobs.specs.Jobs.{JobValue}
use Rattle.decode_jobs.specs.Keys.{Key}
use Rattle.picture_store.specs.declared.answers.Landing.{Landing}
use Rattle.picture_store.specs.declared.answers.Returning.{Returning}
use Rattle.picture_store.specs.declared.answers.TakeRefused.{TakeRefused}
use Rattle.stream_session.specs.Machines.{Machine}
use Rattle.stream_session.specs.Jobs.{AnswersGiveBack, AnswersLand, AnswersTake}
use Rattle.worker_jobs.specs.Taking.{AnswersTakeFirst, NoneDue}
use Rattle.worker_jobs.specs.Wanted.{Wants, urgent}
use Rattle.worker_jobs.specs.declared.worker_queue.JobCounts.{JobCounts}
use Rattle.decode_pool.specs.declared.state.bringing.Next.{Next}
use Rattle.decode_pool.specs.declared.state.bringing.Next.TheVariants as next
use Rattle.worker_jobs.specs.JobCounts.{with_landing, with_late, with_returning}

module _ {P : Type 0} (IsDecoded : InputValue P → P → Type 0) where
  -- the results of the jobs land one after the other, and are counted; a picture of each that isn't
  -- taken is kept, behind those that came too late before
  abbrev pub LandsAll : Machine P → List (JobValue P) → JobCounts → List P → Machine P → JobCounts → List P → Type 0
  LandsAll from [] counts late to final all = (to ≡ from) × (final ≡ counts) × (all ≡ late)
  LandsAll from (job ∷ jobs) counts late to final all =
      (landing : Landing) × (picture : P) × (then : Machine P) × AnswersLand IsDecoded from job landing then
      × IsDecoded job.input picture
      × LandsAll then jobs (with_landing landing counts) (with_late landing picture late) to final all

module _ {P : Type 0} where
  -- the jobs are given back one after the other, and are counted
  abbrev pub GivesBackAll : Machine P → List (JobValue P) → JobCounts → Machine P → JobCounts → Type 0
  GivesBackAll from [] counts to final = (to ≡ from) × (final ≡ counts)
  GivesBackAll from (job ∷ jobs) counts to final =
      (returning : Returning) × (then : Machine P) × AnswersGiveBack from job returning then
      × GivesBackAll then jobs (with_returning returning counts) to final

module _ {P : Type 0} (IsOf : Key → P → Type 0) where
  -- the jobs are taken one after the other
  abbrev pub TakesAll : Machine P → List (JobValue P) → Machine P → Type 0
  TakesAll from [] to = to ≡ from
  TakesAll from (job ∷ jobs) to =
      (then : Machine P) × AnswersTake IsOf from (Ok (Some job)) then × TakesAll then jobs to

  -- no job is taken: one is due and can't be, or the session isn't asked
  abbrev pub TakesNone : Machine P → Machine P → Type 0
  TakesNone from to = ((refused : TakeRefused) × AnswersTake IsOf from (Err refused) to) ⊎ (to ≡ from)

  -- what a worker does next that took these jobs one after the other: it decodes them, as many as it
  -- may have or as there are; or none is due, and it sleeps; or it ends
  abbrev pub TakesSome : Machine P → List (JobValue P) → Next → Machine P → Type 0
  TakesSome from jobs next.Decodes to = (jobs ≢ []) × TakesAll from jobs to
  TakesSome from jobs next.DecodesLast to = (jobs ≢ [])
      × ((then : Machine P) × TakesAll from jobs then × (AnswersTake IsOf then (Ok None) to ⊎ TakesNone then to))
  TakesSome from jobs next.Sleeps to = (jobs ≡ []) × AnswersTake IsOf from (Ok None) to
  TakesSome from jobs next.Ends to = (jobs ≡ []) × TakesNone from to

  -- what a worker does next that asks for the wanted ids alone: it decodes the job of the first for
  -- which a needed unit is due; or none is due for any and the rest isn't wanted, and it sleeps; or
  -- one is due and can't be taken, or the session isn't asked, and it ends
  abbrev pub TakesUrgent : Machine P → Wants → List (JobValue P) → Next → Machine P → Type 0
  TakesUrgent from wants jobs next.Decodes to =
      (job : JobValue P) × (jobs ≡ job ∷ []) × AnswersTakeFirst IsOf from (urgent wants) (Ok (Some job)) to
  TakesUrgent from wants jobs next.DecodesLast to = ⊥
  TakesUrgent from wants jobs next.Sleeps to =
      (jobs ≡ []) × (wants.rest ≡ false) × AnswersTakeFirst IsOf from (urgent wants) (Ok None) to
  TakesUrgent from wants jobs next.Ends to =
      (jobs ≡ []) × (((refused : TakeRefused) × AnswersTakeFirst IsOf from (urgent wants) (Err refused) to) ⊎ (to ≡ from))

  -- no needed unit is due for any wanted id, the rest is wanted, and a worker takes some of that
  pub record TakesRest (from : Machine P) (wants : Wants) (jobs : List (JobValue P)) (step : Next) (to : Machine P) : Type 0 where
    pub none_due : NoneDue from (urgent wants)
    pub wanted : wants.rest ≡ true
    pub takes : TakesSome from jobs step to

  -- what a worker does next: what is wanted first, and the rest only where no needed unit is due for
  -- that
  abbrev pub TakesNext : Machine P → Wants → List (JobValue P) → Next → Machine P → Type 0
  TakesNext from wants jobs step to = TakesUrgent from wants jobs step to ⊎ TakesRest from wants jobs step to
