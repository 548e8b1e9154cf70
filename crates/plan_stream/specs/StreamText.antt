-- The lines of a stream (docs/OUTPUT.md).
use Rattle.std.specs.Prelude.{ℕ, ◌++◌, List, [], ◌∷◌, Option}
use Rattle.unit_outcomes.specs.declared.outcome.Outcome.{Outcome}
use Rattle.output_order.specs.OutputOrder.{positions_of}
use Rattle.request_core.specs.Fold.{outcomes_of}
use Rattle.unit_printing.specs.UnitLines.{outcome_lines}

-- the lines of units, by the outcome of each and its position
abbrev pub units_text : List (ℕ × List (List ℕ)) → List Outcome → List (Option ℕ) → List ℕ
units_text (unit ∷ units) (outcome ∷ outcomes) (position ∷ positions) =
    outcome_lines unit.0 position outcome ++ units_text units outcomes positions
units_text units outcomes positions = []

-- the lines of a stream: its plain fold, and where in the output each picture stands
abbrev pub stream_text : List (ℕ × List (List ℕ)) → List ℕ
stream_text stream = units_text stream (outcomes_of stream) (positions_of (outcomes_of stream))
