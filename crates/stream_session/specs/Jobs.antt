-- Jobs of a session: one that is taken, lands or is given back changes the pictures alone.
use Rattle.std.specs.Prelude.{◌≡◌, ℕ, take, slice_get, All, Contains, Option, None, Some, Result, Ok, Err}
use Rattle.decode_jobs.specs.Inputs.{InputValue}
use Rattle.decode_jobs.specs.Jobs.{JobValue}
use Rattle.picture_store.specs.declared.answers.TakeRefused.{TakeRefused}
use Rattle.picture_store.specs.declared.answers.Landing.{Landing}
use Rattle.picture_store.specs.declared.answers.Returning.{Returning}
use Rattle.decode_jobs.specs.Keys.{Key}
use Rattle.picture_store.specs.Stores.{OutValue}
use Rattle.picture_store.specs.Jobs as pictures
use Rattle.stream_edits.specs.Streams.{Stream, ids_of}
use Rattle.stream_session.specs.Machines.{Machine, store_of}
use Rattle.stream_session.specs.Showing.{keys_in}

-- the unit of the id is the first of the stream that has the key
pub record IsFirstWith (stream : Stream) (key : Key) (id : ℕ) : Type 0 where
  pub at : ℕ
  pub stands : slice_get (ids_of stream) at ≡ Some id
  pub has : slice_get (keys_in stream) at ≡ Some (Some key)
  pub first : All (λ other. other ≡ Some key → ⊥) (take at (keys_in stream))

module _ {P : Type 0} where
  -- the accepted edits stay, and with them the stream and what the session began from
  abbrev pub KeepsStream : Machine P → Machine P → Type 0
  KeepsStream old new = (new.journal ≡ old.journal) × (new.register ≡ old.register) × (new.origin ≡ old.origin)

  -- the unit of the id is that of the job of the number: the first that has the job's key
  abbrev pub IsUnitOf : Machine P → ℕ → ℕ → Type 0
  IsUnitOf machine number id =
      (job : OutValue P) × Contains machine.jobs_out job × (job.number ≡ number)
      × IsFirstWith machine.register.stream job.key id

  -- an answer to a picture of the job of a number
  abbrev pub AnswersLandOf : Machine P → ℕ → P → Landing → Machine P → Type 0
  AnswersLandOf old number picture answer new =
      pictures.AnswersLandOf (store_of old) number picture answer (store_of new) × KeepsStream old new

  -- an answer to a job that is given back
  abbrev pub AnswersGiveBack : Machine P → JobValue P → Returning → Machine P → Type 0
  AnswersGiveBack old job answer new =
      pictures.AnswersGiveBack (store_of old) job answer (store_of new) × KeepsStream old new

  -- an answer to a job that is given back by its number
  abbrev pub AnswersGiveBackOf : Machine P → ℕ → Returning → Machine P → Type 0
  AnswersGiveBackOf old number answer new =
      pictures.AnswersGiveBackOf (store_of old) number answer (store_of new) × KeepsStream old new

module _ {P : Type 0} (IsOf : Key → P → Type 0) where
  -- an answer to one who asks for a job
  abbrev pub AnswersTake : Machine P → Result (Option (JobValue P)) TakeRefused → Machine P → Type 0
  AnswersTake old answer new = pictures.AnswersTake IsOf (store_of old) answer (store_of new) × KeepsStream old new

  -- an answer to one who asks for a job and its unit
  abbrev pub AnswersTakeWithUnit : Machine P → Result (Option (ℕ × JobValue P)) TakeRefused → Machine P → Type 0
  AnswersTakeWithUnit old (Ok (Some told)) new = AnswersTake old (Ok (Some told.1)) new × IsUnitOf new told.1.number told.0
  AnswersTakeWithUnit old (Ok None) new = AnswersTake old (Ok None) new
  AnswersTakeWithUnit old (Err refused) new = AnswersTake old (Err refused) new

module _ {P : Type 0} (IsDecoded : InputValue P → P → Type 0) where
  -- an answer to a job's result
  abbrev pub AnswersLand : Machine P → JobValue P → Landing → Machine P → Type 0
  AnswersLand old job answer new =
      pictures.AnswersResult IsDecoded (store_of old) job answer (store_of new) × KeepsStream old new
