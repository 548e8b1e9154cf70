-- Questions about a stream.
use Rattle.std.specs.Prelude.{ℕ, pos, length, Option, None, Some, Result, Ok, Err, slice_get}
use Rattle.std.specs.Option.{option_map}
use Rattle.unit_outcomes.specs.declared.outcome.Outcome.{Outcome}
use Rattle.unit_outcomes.specs.declared.outcome.Outcome.TheVariants as outcomes
use Rattle.unit_outcomes.specs.Numbers.{number_of}
use Rattle.stream_edits.specs.Streams.{Stream, ids_of, place_of}
use Rattle.stream_session.specs.Streams.{outcome_in, position_in}
use Rattle.c_calls.specs.declared.asking.UnitOutcome.{UnitOutcome}
use Rattle.c_calls.specs.Statuses.{no_such_place, no_such_unit, not_valid}
use Rattle.c_calls.specs.Telling.{flag, found_or}

-- the id of the unit at a place
abbrev pub id_at : Stream → ℕ → Result ℕ ℕ
id_at stream place = found_or no_such_place (slice_get (ids_of stream) place)

-- the place of the unit of the id
abbrev pub place_answer : Stream → ℕ → Result ℕ ℕ
place_answer stream id = found_or no_such_unit (place_of stream id)

-- what only a valid unit has
abbrev pub of_valid : {A : Type 0} → Option (Option A) → Result A ℕ
of_valid (Some (Some value)) = Ok value
of_valid (Some None) = Err not_valid
of_valid None = Err no_such_unit

-- the position of the unit of the id in output order
abbrev pub position_answer : Stream → ℕ → Result ℕ ℕ
position_answer stream id = of_valid (position_in stream id)

-- what is told of a unit of this kind that has no plan
abbrev pub without_plan : ℕ → ℕ → UnitOutcome
without_plan kind fault = record {
  kind = kind;
  fault = fault;
  top = pos 0;
  bottom = pos 0;
  order = pos 0;
  begins_period = 0;
  slices = 0;
}

-- a unit's outcome, as it is told: of a fault its number, of a plan its counts and how many slices
-- there are
abbrev pub as_unit_outcome : Outcome → UnitOutcome
as_unit_outcome (outcomes.Plan plan) = record {
  kind = 0;
  fault = 0;
  top = plan.counts.top;
  bottom = plan.counts.bottom;
  order = plan.order;
  begins_period = flag plan.begins_period;
  slices = length plan.requests;
}
as_unit_outcome (outcomes.Fault fault) = without_plan 1 (number_of fault)
as_unit_outcome outcomes.Empty = without_plan 2 0

-- the outcome of the unit of the id
abbrev pub outcome_answer : Stream → ℕ → Result UnitOutcome ℕ
outcome_answer stream id = found_or no_such_unit (option_map as_unit_outcome (outcome_in stream id))
