-- What is recorded of a session's edits.
use Rattle.std.specs.Prelude.{◌≡◌, ℕ, ◌+◌, ◌-◌, ◌^◌, min, List, [], ◌∷◌, ◌++◌, Option, None, Some, Result, Ok, Err, ⊤}
use Rattle.annexb.specs.ByteStream.{joined}
use Rattle.stream_edits.specs.declared.edits.Edit.{Edit}
use Rattle.stream_edits.specs.declared.edits.Edit.TheVariants.{Insert}
use Rattle.stream_edits.specs.declared.edits.InsertionPoint.{InsertionPoint}
use Rattle.stream_edits.specs.declared.edits.InsertionPoint.TheVariants.{After}
use Rattle.stream_edits.specs.Streams.{last_of, place_after}
use Rattle.stand_in_session.specs.Machines.{Machine}
use Rattle.session_journal.specs.declared.steps.step.RecordedStep.{RecordedStep}
use Rattle.session_journal.specs.declared.steps.step.RecordedStep.TheVariants.{Load, Snapshot}
use Rattle.session_journal.specs.Records.{given_by_steps}
use Rattle.session_journal.specs.SessionJournalKept.{with_left}
use Rattle.stream_edits.specs.Snapshots.{SnapshotValue}
use Rattle.serve_calls.specs.Sessions.{Asks}

module _ {K : Type 0} (stands : K → List RecordedStep → Type 0) where
  -- the steps that stand in one stand in the other
  abbrev pub StaysKept : K → K → Type 0
  StaysKept before after = (steps : List RecordedStep) → stands before steps → stands after steps

  -- behind the steps that stand in one, this one stands in the other
  abbrev pub Adds : K → RecordedStep → K → Type 0
  Adds before step after = (steps : List RecordedStep) → stands before steps → stands after (steps ++ step ∷ [])

  -- what is recorded, if anything is, before a step is made: with the step, if it could be recorded,
  -- so that it can be taken off; else the steps before it
  abbrev pub IsRecorded : {T E : Type 0} → (K → List RecordedStep → RecordedStep → Type 0) → Option K → RecordedStep → Result T E → Option K → Type 0
  IsRecorded ends None step answer new = new ≡ None
  IsRecorded ends (Some before) step (Ok it) new =
      (after : K) × (new ≡ Some after) × Adds before step after × ((steps : List RecordedStep) → stands before steps → ends after steps step)
  IsRecorded ends (Some before) step (Err fault) new = (after : K) × (new ≡ Some after) × StaysKept before after

  -- the step that was recorded last is taken off again
  abbrev pub IsTakenOff : (K → List RecordedStep → RecordedStep → Type 0) → Option K → Option K → Type 0
  IsTakenOff ends None new = new ≡ None
  IsTakenOff ends (Some before) new =
      (after : K) × (new ≡ Some after) × ((steps : List RecordedStep) (step : RecordedStep) → ends before steps step → stands after steps)

-- the insertions of units one after the other, the first of them at a place, where so many ids were
-- given before
abbrev pub insertions_from : InsertionPoint → ℕ → List (List (List ℕ)) → List Edit
insertions_from place given [] = []
insertions_from place given (unit ∷ units) = Insert place (joined unit) ∷ insertions_from (After (given + 1)) (given + 1) units

-- so many ids were given by the edits that are recorded, if any are
abbrev pub AreGiven : {K : Type 0} → (K → List RecordedStep → Type 0) → Option K → ℕ → Type 0
AreGiven stands None given = ⊤
AreGiven {K} stands (Some before) given = (steps : List RecordedStep) → stands before steps → given ≡ given_by_steps 0 steps

-- the insertions of units behind the last one are recorded as a load, behind so many ids
abbrev pub IsLoadKeptAt : {K E : Type 0} → (K → List RecordedStep → Type 0) → (K → List RecordedStep → RecordedStep → Type 0) → InsertionPoint → Option K
    → List (List (List ℕ)) → Result (Unit {0}) E → Option K → Type 0
IsLoadKeptAt stands ends place old units answer new =
    (given : ℕ) × AreGiven stands old given × IsRecorded stands ends old (Load (insertions_from place given units)) answer new

-- how many units of a load were inserted once one more is answered
abbrev pub loaded_after : {T E : Type 0} → ℕ → Result T E → ℕ
loaded_after count (Ok it) = min (count + 1) (2 ^ 64 - 1)
loaded_after count (Err fault) = count
