-- What the plain fold says of a unit of a stream.
use Rattle.std.specs.Prelude.{ℕ, Option, slice_get, option_and_then}
use Rattle.unit_outcomes.specs.declared.outcome.Outcome.{Outcome}
use Rattle.request_core.specs.Fold.{outcomes_of}
use Rattle.output_order.specs.OutputOrder.{positions_of}
use Rattle.stream_edits.specs.Streams.{Stream, place_of}

-- the outcome of the unit that has the id
abbrev pub outcome_in : Stream → ℕ → Option Outcome
outcome_in stream id = option_and_then (slice_get (outcomes_of stream)) (place_of stream id)

-- the position of that unit in output order, which it has where it is valid
abbrev pub position_in : Stream → ℕ → Option (Option ℕ)
position_in stream id = option_and_then (slice_get (positions_of (outcomes_of stream))) (place_of stream id)
