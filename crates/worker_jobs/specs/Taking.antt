-- What is taken first of a session.
use Rattle.std.specs.Prelude.{◌≡◌, ℕ, ◌<◌, List, Option, None, Some, Result, Ok, Err, slice_get}
use Rattle.decode_jobs.specs.Jobs.{JobValue}
use Rattle.decode_jobs.specs.Keys.{Key}
use Rattle.picture_store.specs.declared.answers.TakeRefused.{TakeRefused}
use Rattle.stream_session.specs.Machines.{Machine}
use Rattle.stream_session.specs.Needing.{AnswersTakeFor, IsAnyDueFor}

module _ {P : Type 0} where
  -- no needed unit of those of the ids before a place is due
  abbrev pub NoneDueBefore : Machine P → List ℕ → ℕ → Type 0
  NoneDueBefore machine ids end =
      (at id : ℕ) → at < end → slice_get ids at ≡ Some id → IsAnyDueFor machine id → ⊥

  -- no needed unit of those of the ids is due
  abbrev pub NoneDue : Machine P → List ℕ → Type 0
  NoneDue machine ids = (at id : ℕ) → slice_get ids at ≡ Some id → IsAnyDueFor machine id → ⊥

module _ {P : Type 0} (IsOf : Key → P → Type 0) where
  -- the answer is that for an id of these, before which no needed unit of any is due
  pub record AnswersForFirst (old : Machine P) (ids : List ℕ) (answer : Result (Option (JobValue P)) TakeRefused) (new : Machine P)
      : Type 0 where
    pub at : ℕ
    pub id : ℕ
    pub stands : slice_get ids at ≡ Some id
    pub before : NoneDueBefore old ids at
    pub answers : AnswersTakeFor IsOf old id answer new

  -- an answer to one who asks for a job for the first of the ids for which a needed unit is due
  abbrev pub AnswersTakeFirst : Machine P → List ℕ → Result (Option (JobValue P)) TakeRefused → Machine P → Type 0
  AnswersTakeFirst old ids (Ok None) new = NoneDue old ids × (new ≡ old)
  AnswersTakeFirst old ids (Ok (Some job)) new = AnswersForFirst old ids (Ok (Some job)) new
  AnswersTakeFirst old ids (Err refused) new = AnswersForFirst old ids (Err refused) new
