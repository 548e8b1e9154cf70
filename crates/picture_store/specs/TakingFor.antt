-- Jobs that are taken for a unit.
use Rattle.std.specs.Prelude.{◌≡◌, ℕ, ◌<◌, Option, None, Some, Result, Ok, Err}
use Rattle.decode_jobs.specs.Keys.{Key}
use Rattle.picture_store.specs.declared.answers.TakeRefused.{TakeRefused}
use Rattle.picture_store.specs.declared.answers.TakeRefused.TheVariants.{JobsSpent, Memory}
use Rattle.picture_store.specs.declared.answers.JobAt.{JobAt}
use Rattle.picture_store.specs.Stores.{StoreValue}
use Rattle.picture_store.specs.Jobs.{Gives, most_jobs}
use Rattle.picture_store.specs.Pending.{IsAnyDueBy, IsDueAt, IsNeededBy}

module _ {P : Type 0} (IsOf : Key → P → Type 0) where
  -- a job is taken for the unit at a place: that of the earliest of its needed units that are due
  pub record TakesFor (old : StoreValue P) (target : ℕ) (told : JobAt P) (new : StoreValue P) : Type 0 where
    pub gives : Gives IsOf old told.at told.job new
    pub needed : IsNeededBy old target told.at
    pub earliest : (at : ℕ) → at < told.at → IsNeededBy old target at → IsDueAt old at → ⊥

  -- what `take_for` tells: a job and at which place its unit stands, that no needed unit is due, or
  -- why no job is given; what is needed is gathered in memory first
  abbrev pub AnswersTakeWithUnitFor : StoreValue P → ℕ → Result (Option (JobAt P)) TakeRefused → StoreValue P → Type 0
  AnswersTakeWithUnitFor old target (Ok (Some told)) new = TakesFor old target told new
  AnswersTakeWithUnitFor old target (Ok None) new = (IsAnyDueBy old target → ⊥) × (new ≡ old)
  AnswersTakeWithUnitFor old target (Err JobsSpent) new = IsAnyDueBy old target × (old.jobs_given ≡ most_jobs) × (new ≡ old)
  AnswersTakeWithUnitFor old target (Err Memory) new = new ≡ old

  -- what comes of giving the job of the unit at a place, which is due
  abbrev pub TellsGiven : StoreValue P → ℕ → Result (JobAt P) TakeRefused → StoreValue P → Type 0
  TellsGiven old at (Ok told) new = (told.at ≡ at) × Gives IsOf old at told.job new
  TellsGiven old at (Err JobsSpent) new = (old.jobs_given ≡ most_jobs) × (new ≡ old)
  TellsGiven old at (Err Memory) new = (old.jobs_given < most_jobs) × (new ≡ old)
