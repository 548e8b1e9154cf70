-- What a unit of a session needs: pending units, jobs that are taken for one, and pictures that are
-- dropped.
use Rattle.std.specs.Prelude.{◌≡◌, ℕ, slice_get, Option, None, Some, Result, Ok, Err}
use Rattle.decode_jobs.specs.Jobs.{JobValue}
use Rattle.decode_jobs.specs.Keys.{Key}
use Rattle.picture_store.specs.declared.answers.TakeRefused.{TakeRefused}
use Rattle.picture_store.specs.declared.answers.TakeRefused.TheVariants.{JobsSpent, Memory}
use Rattle.picture_store.specs.Jobs.{most_jobs}
use Rattle.picture_store.specs.Pending.{IsPending, IsAnyDueBy, IsAnyOutBy}
use Rattle.picture_store.specs.TakingFor as pictures
use Rattle.picture_store.specs.Released as released
use Rattle.stream_edits.specs.Streams.{ids_of, place_of}
use Rattle.stream_session.specs.declared.showing.Dropped.{Dropped}
use Rattle.stream_session.specs.declared.showing.Dropped.TheVariants.{Picture, NotHeld, NoSuchUnit}
use Rattle.stream_session.specs.Machines.{Machine, store_of}
use Rattle.stream_session.specs.Jobs.{KeepsStream}

module _ {P : Type 0} where
  -- the unit of the id is pending: it is valid, and its key isn't held
  abbrev pub IsPendingIn : Machine P → ℕ → Type 0
  IsPendingIn machine id =
      (at : ℕ) × (place_of machine.register.stream id ≡ Some at) × IsPending (store_of machine) at

  -- a needed unit of that of the id is due
  abbrev pub IsAnyDueFor : Machine P → ℕ → Type 0
  IsAnyDueFor machine id =
      (at : ℕ) × (place_of machine.register.stream id ≡ Some at) × IsAnyDueBy (store_of machine) at

  -- the key of a needed unit of that of the id is out
  abbrev pub IsAnyOutFor : Machine P → ℕ → Type 0
  IsAnyOutFor machine id =
      (at : ℕ) × (place_of machine.register.stream id ≡ Some at) × IsAnyOutBy (store_of machine) at

module _ {P : Type 0} (IsOf : Key → P → Type 0) where
  -- a job is taken for the unit of the id: that of the earliest of its needed units that are due,
  -- which has this id
  pub record TakesFor (old : Machine P) (id unit : ℕ) (job : JobValue P) (new : Machine P) : Type 0 where
    pub target : ℕ
    pub target_is : place_of old.register.stream id ≡ Some target
    pub at : ℕ
    pub unit_is : slice_get (ids_of old.register.stream) at ≡ Some unit
    pub takes : pictures.TakesFor IsOf (store_of old) target (record { at = at; job = job }) (store_of new)
    pub stream : KeepsStream old new

  -- an answer to one who asks for a job for a unit, and which unit it is of; what is needed is
  -- gathered in memory first
  abbrev pub AnswersTakeWithUnitFor : Machine P → ℕ → Result (Option (ℕ × JobValue P)) TakeRefused → Machine P → Type 0
  AnswersTakeWithUnitFor old id (Ok (Some told)) new = TakesFor old id told.0 told.1 new
  AnswersTakeWithUnitFor old id (Ok None) new = (IsAnyDueFor old id → ⊥) × (new ≡ old)
  AnswersTakeWithUnitFor old id (Err JobsSpent) new = IsAnyDueFor old id × (old.jobs ≡ most_jobs) × (new ≡ old)
  AnswersTakeWithUnitFor old id (Err Memory) new = new ≡ old

  -- an answer to one who asks for a job for a unit
  abbrev pub AnswersTakeFor : Machine P → ℕ → Result (Option (JobValue P)) TakeRefused → Machine P → Type 0
  AnswersTakeFor old id (Ok (Some job)) new = (unit : ℕ) × TakesFor old id unit job new
  AnswersTakeFor old id (Ok None) new = AnswersTakeWithUnitFor old id (Ok None) new
  AnswersTakeFor old id (Err refused) new = AnswersTakeWithUnitFor old id (Err refused) new

  -- the picture of the unit of the id goes back, or why it doesn't
  abbrev pub AnswersDrop : Machine P → ℕ → Dropped P → Machine P → Type 0
  AnswersDrop old id (Picture picture) new =
      (at : ℕ) × (place_of old.register.stream id ≡ Some at)
      × released.AnswersDrop IsOf (store_of old) at (Some picture) (store_of new) × KeepsStream old new
  AnswersDrop old id NotHeld new =
      (at : ℕ) × (place_of old.register.stream id ≡ Some at)
      × released.AnswersDrop IsOf (store_of old) at None (store_of new) × KeepsStream old new
  AnswersDrop old id NoSuchUnit new = (place_of old.register.stream id ≡ None) × (new ≡ old)

  -- the picture that was cached first goes back
  abbrev pub AnswersUncache : Machine P → Option P → Machine P → Type 0
  AnswersUncache old answer new = released.AnswersUncache IsOf (store_of old) answer (store_of new) × KeepsStream old new

module _ {P : Type 0} where
  -- a released picture goes back
  abbrev pub AnswersReleased : Machine P → Option P → Machine P → Type 0
  AnswersReleased old answer new = released.AnswersReleased (store_of old) answer (store_of new) × KeepsStream old new
