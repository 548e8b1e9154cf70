-- What a session is asked, and the results.
use Rattle.std.specs.Prelude.{◌≡◌, ◌≢◌, ◌⊎◌, ◌↔◌, ℕ, ◌+◌, ◌<◌, ◌≤◌, AllPairs, Bool, IsTrue, List, length, slice_index_or, take, drop, slice_get, filter_map, option_and_then, option_map, Option, Some, None, Result, Ok, Err}
use Rattle.std.specs.List.{zip}
use Rattle.unit_outcomes.specs.InDoubt.{IsDoubt}
use Rattle.stream_edits.specs.Streams.{Stream, ids_of}
use Rattle.edit_script.specs.Words.{id_of}
use Rattle.stand_in_session.specs.Showing.{Shown, Shows}
use Rattle.stand_in_session.specs.Machines.{Machine}
use Rattle.stream_session.specs.Altered.{IsAltered}
use Rattle.stream_session.specs.Doubting.{seen_in}
use Rattle.stream_session.specs.Streams.{outcome_in, position_in}
use Rattle.serve_requests.specs.declared.failure.Failure.{Failure}
use Rattle.serve_answers.specs.declared.answer.Answer.{Answer}
use Rattle.serve_answers.specs.declared.answer.Answer.TheVariants as answer
use Rattle.serve_answers.specs.declared.answer.FoundUnit.{FoundUnit}
use Rattle.serve_answers.specs.declared.answer.Stats.{Stats}
use Rattle.serve_answers.specs.Introductions.{introduction}
use Rattle.serve_answers.specs.declared.unit_answers.UnitFlags.{UnitFlags}
use Rattle.serve_answers.specs.declared.unit_answers.UnitAnswer.{UnitAnswer}
use Rattle.serve_answers.specs.Replies.{show_answer}
use Rattle.serve_answers.specs.UnitAnswers.{unit_answer}
use Rattle.serve_calls.specs.declared.sums.Sums.{Sums}
use Rattle.serve_calls.specs.Failing.{IsUnlessMemory, out_of_memory}
use Rattle.serve_calls.specs.Sessions.{Asks}
use Rattle.serve_calls.specs.Offering.{Offered}

-- the ids of so many units from a place on
abbrev pub ids_in : Stream → ℕ → ℕ → List ℕ
ids_in stream from count = take count (drop from (ids_of stream))

-- the outcome of the unit of the id as a result, with what is told of it, and with its controls or
-- without, if there is such a unit
abbrev pub unit_in : Stream → Bool → ℕ × UnitFlags → Option UnitAnswer
unit_in stream controls it =
    option_and_then (λ outcome. option_map (λ position. unit_answer it.0 position outcome it.1 controls) (position_in stream it.0))
    (outcome_in stream it.0)

-- what is told of the unit of an id, at a place, is so
pub record IsToldAt (machine : Machine) (at id : ℕ) (told : UnitFlags) : Type 0 where
  pub doubt : IsDoubt (seen_in machine.register.stream) at told.doubt
  pub altered : IsTrue told.altered ↔ IsAltered machine id

-- what is told of so many of these units, which stand from a place on, is so
pub record AreToldFrom (machine : Machine) (from count : ℕ) (ids : List ℕ) (told : List UnitFlags) : Type 0 where
  pub long : length told ≡ count
  pub each : (k : ℕ) (unknown : UnitFlags) → k < count
      → IsToldAt machine (from + k) (slice_index_or ids k 0) (slice_index_or told k unknown)

-- the outcomes of so many units from a place on, each with the break that it follows, whether it is in
-- doubt and whether it is altered
pub record AreUnitsIn (machine : Machine) (from count : ℕ) (controls : Bool) (answers : List UnitAnswer) : Type 0 where
  pub told : List UnitFlags
  pub are_told : AreToldFrom machine from (length (ids_in machine.register.stream from count))
      (ids_in machine.register.stream from count) told
  pub are : answers ≡ filter_map (unit_in machine.register.stream controls) (zip (ids_in machine.register.stream from count) told)

-- the unit of the id has the position
abbrev pub HasPosition : Stream → ℕ → ℕ → Type 0
HasPosition stream position id = position_in stream id ≡ Some (Some position)

-- no unit from a place on up to another has the position
abbrev pub IsNoneAmong : Stream → ℕ → ℕ → ℕ → Type 0
IsNoneAmong stream position from to =
    (at id : ℕ) → from ≤ at → at < to → slice_get (ids_of stream) at ≡ Some id → HasPosition stream position id → ⊥

-- this unit stands at its place and has the position
abbrev pub IsAt : Stream → ℕ → FoundUnit → Type 0
IsAt stream position found =
    (slice_get (ids_of stream) found.place ≡ Some found.id) × HasPosition stream position found.id

-- the unit that has the position, or that none has it
abbrev pub IsFound : Stream → ℕ → Option FoundUnit → Type 0
IsFound stream position (Some found) = IsAt stream position found
IsFound stream position None = IsNoneAmong stream position 0 (length stream)

-- how much there is of what the session keeps, and what edits added up to
abbrev pub stats_of : Machine → Sums → Stats
stats_of machine sums = record {
  units = length machine.register.stream;
  edits = length machine.journal;
  held = length machine.held;
  cached = length machine.cached;
  jobs_out = length machine.jobs_out;
  steps = sums.steps;
  bytes = sums.bytes;
}

-- the result of a question for so many units from a place on: their outcomes, or that memory ran out
abbrev pub IsUnitsAnswer : Machine → ℕ → ℕ → Bool → Result Answer Failure → Type 0
IsUnitsAnswer machine from count controls result =
    ((answers : List UnitAnswer) × AreUnitsIn machine from count controls answers × (result ≡ Ok (answer.Units answers)))
    ⊎ (result ≡ Err out_of_memory)

abbrev pub TellsUnits : (Machine → Type 0) → ℕ → ℕ → Bool → Result Answer Failure → Type 0
TellsUnits is_session from count controls result =
    Asks is_session (λ machine. IsUnitsAnswer machine from count controls result)

-- the result of a question for the unit at a position
abbrev pub TellsFound : (Machine → Type 0) → ℕ → Result Answer Failure → Type 0
TellsFound is_session position result =
    (found : Option FoundUnit) × Asks is_session (λ machine. IsFound machine.register.stream position found)
    × (result ≡ Ok (answer.FoundUnit found))

-- the result of a question for what is shown of the unit of a number
abbrev pub TellsShown : (Machine → Type 0) → ℕ → Result Answer Failure → Type 0
TellsShown is_session number result =
    (shown : Shown) × Asks is_session (λ machine. Shows machine (id_of number) shown)
    × IsUnlessMemory (show_answer shown) result

-- the result of a question for how much there is, where no key is held twice
abbrev pub TellsStats : (Machine → Type 0) → Sums → Result Answer Failure → Type 0
TellsStats is_session sums result =
    Asks is_session (λ machine. (result ≡ Ok (answer.Stats (stats_of machine sums))) × AllPairs ◌≢◌ machine.held)

-- the result of a question for what the server is, which has methods about jobs and about a journal or
-- none
abbrev pub Introduces : Offered → Result Answer Failure → Type 0
Introduces offered result = IsUnlessMemory (Ok (answer.Initialized (introduction offered.jobs offered.journal))) result
