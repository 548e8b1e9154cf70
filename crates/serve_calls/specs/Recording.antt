-- What is recorded of a session's steps, before and after they are answered.
use Rattle.std.specs.Prelude.{◌≡◌, ◌⊎◌, ℕ, List, [], ◌∷◌, ◌++◌, Option, None, IsSomeAnd, Some, Result, Ok, Err, IsErr, ⊤}
use Rattle.access_unit.specs.StreamUnits.{IsStream}
use Rattle.stream_edits.specs.declared.edits.Edit.{Edit}
use Rattle.stream_edits.specs.Streams.{last_of, place_after}
use Rattle.stand_in_session.specs.Machines.{Machine}
use Rattle.session_journal.specs.declared.steps.step.RecordedStep.{RecordedStep}
use Rattle.session_journal.specs.declared.steps.step.RecordedStep.TheVariants.{Edits, Load}
use Rattle.session_journal.specs.Records.{given_by_steps}
use Rattle.session_journal.specs.SessionJournalKept.{with_left}
use Rattle.serve_requests.specs.declared.failure.Failure.{Failure}
use Rattle.serve_requests.specs.declared.failure.Failure.TheVariants.{Refused}
use Rattle.serve_requests.specs.declared.failure.CallRefusal.TheVariants as refusal
use Rattle.serve_answers.specs.declared.answer.Answer.{Answer}
use Rattle.serve_answers.specs.declared.answer.Answer.TheVariants as answer
use Rattle.serve_calls.specs.declared.loading.Inserted.{Inserted}
use Rattle.serve_calls.specs.Journaled.{insertions_from, loaded_after}
use Rattle.serve_calls.specs.Sessions.{Asks}

-- there is a journal, the steps stand in it, and no load is under way
abbrev pub Stands : {K : Type 0} → (K → List RecordedStep → Type 0) → Option K → Option ℕ → List RecordedStep → Type 0
Stands stands journal loaded steps = (loaded ≡ None) × IsSomeAnd journal (λ kept. stands kept steps)

-- there is a journal, in which a load of these edits stands behind the steps, and so many of them were made
abbrev pub StandsLoad : {K : Type 0} → (K → List RecordedStep → RecordedStep → Type 0) → Option K → Option ℕ → List RecordedStep → List Edit → ℕ → Type 0
StandsLoad ends journal loaded steps edits count = (loaded ≡ Some count) × IsSomeAnd journal (λ kept. ends kept steps (Load edits))

-- the steps that were recorded are recorded still
abbrev pub KeepsRecords : (List RecordedStep → Type 0) → (List RecordedStep → Type 0) → Type 0
KeepsRecords before after = (steps : List RecordedStep) → before steps → after steps

-- the steps with one more behind them, if it is answered as made
abbrev pub steps_after : {T E : Type 0} → List RecordedStep → RecordedStep → Result T E → List RecordedStep
steps_after steps step (Ok it) = steps ++ step ∷ []
steps_after steps step (Err fault) = steps

-- behind the steps that were recorded this one is recorded, if it is answered as made; else they are recorded still
abbrev pub RecordsIf : {T E : Type 0} → (List RecordedStep → Type 0) → RecordedStep → Result T E → (List RecordedStep → Type 0) → Type 0
RecordsIf before step answer after = (steps : List RecordedStep) → before steps → after (steps_after steps step answer)

-- edits of which this holds are recorded so together; or there are none, and nothing is recorded
abbrev pub RecordsSome : {T E : Type 0} → (List RecordedStep → Type 0) → (List Edit → Type 0) → Result T E → (List RecordedStep → Type 0) → Type 0
RecordsSome before are answer after =
    ((edits : List Edit) × are edits × RecordsIf before (Edits edits) answer after) ⊎ (IsErr answer × KeepsRecords before after)

-- other steps in the place of these, if that is answered as done
abbrev pub only_after : {T E : Type 0} → List RecordedStep → List RecordedStep → Result T E → List RecordedStep
only_after steps only (Ok it) = only
only_after steps only (Err fault) = steps

-- in the place of the steps that were recorded these are recorded, if that is answered as done; else they are recorded still
abbrev pub RecordsOnly : {T E : Type 0} → (List RecordedStep → Type 0) → List RecordedStep → Result T E → (List RecordedStep → Type 0) → Type 0
RecordsOnly before only answer after = (steps : List RecordedStep) → before steps → after (only_after steps only answer)

-- one unit more of a load that is recorded is made, if it is answered as inserted
abbrev pub CountsOn : {T E : Type 0} → (List RecordedStep → List Edit → ℕ → Type 0) → Result T E → (List RecordedStep → List Edit → ℕ → Type 0) → Type 0
CountsOn before answer after =
    (steps : List RecordedStep) (edits : List Edit) (count : ℕ) → before steps edits count → after steps edits (loaded_after count answer)

-- the insertions of units behind the last unit of the stream, the ids of which go on from those that the steps gave
abbrev pub insertions_behind : Machine → List RecordedStep → List (List (List ℕ)) → List Edit
insertions_behind machine steps units =
    insertions_from (place_after (last_of machine.register.stream).id) (given_by_steps 0 steps) units

-- a load of units is recorded, of which none is made so far; or it isn't, and the steps are recorded still
abbrev pub BeginsLoad : {T E : Type 0} → (Machine → Type 0) → (List RecordedStep → Type 0) → List (List (List ℕ)) → Result T E
    → (List RecordedStep → Type 0) → (List RecordedStep → List Edit → ℕ → Type 0) → Type 0
BeginsLoad is_session before units (Ok it) after loads =
    (steps : List RecordedStep) → before steps → Asks is_session (λ machine. loads steps (insertions_behind machine steps units) 0)
BeginsLoad is_session before units (Err fault) after loads = KeepsRecords before after

-- of a load that was recorded so many edits are recorded as were made
abbrev pub EndsLoad : (List RecordedStep → List Edit → ℕ → Type 0) → (List RecordedStep → Type 0) → Type 0
EndsLoad loads after =
    (steps : List RecordedStep) (edits : List Edit) (count : ℕ) → loads steps edits count → after (with_left steps (Load edits) count)

-- behind the steps that were recorded so many insertions of a load of units are recorded
abbrev pub RecordsLoad : (Machine → Type 0) → (List RecordedStep → Type 0) → List (List (List ℕ)) → ℕ → (List RecordedStep → Type 0) → Type 0
RecordsLoad is_session before units made after =
    (steps : List RecordedStep) → before steps
    → Asks is_session (λ machine. after (with_left steps (Load (insertions_behind machine steps units)) made))

-- so many units of a load were inserted before it failed so, where the failure says how many
abbrev pub AreMadeBefore : Failure → ℕ → Type 0
AreMadeBefore (Refused (refusal.Loading refused units)) made = made ≡ units
AreMadeBefore failure made = ⊤

-- so many units were inserted
abbrev pub AreInserted : Result Inserted Failure → ℕ → Type 0
AreInserted (Ok inserted) made = made ≡ inserted.units
AreInserted (Err failure) made = AreMadeBefore failure made

-- so many units were inserted, by the result of a load
abbrev pub AreMade : Result Answer Failure → ℕ → Type 0
AreMade (Ok (answer.Loaded units first last changed left_out)) made = made ≡ units
AreMade (Ok it) made = ⊤
AreMade (Err failure) made = AreMadeBefore failure made

-- of a load of these units as many are recorded as were inserted; or it fails before one is, and the steps are recorded still
abbrev pub RecordsInserted : (Machine → Type 0) → (List RecordedStep → Type 0) → List (List (List ℕ)) → Result Inserted Failure
    → (List RecordedStep → Type 0) → Type 0
RecordsInserted is_session before units result after =
    ((made : ℕ) × AreInserted result made × RecordsLoad is_session before units made after)
    ⊎ (IsErr result × AreInserted result 0 × KeepsRecords before after)

-- and so of the units of a text
abbrev pub RecordsStream : (Machine → Type 0) → (List RecordedStep → Type 0) → List ℕ → Result Answer Failure → (List RecordedStep → Type 0) → Type 0
RecordsStream is_session before text result after =
    ((units : List (List (List ℕ))) × (made : ℕ) × IsStream text units × AreMade result made
    × RecordsLoad is_session before units made after)
    ⊎ (IsErr result × AreMade result 0 × KeepsRecords before after)
