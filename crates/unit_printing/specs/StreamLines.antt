-- The lines of a stream (docs/OUTPUT.md).
use Rattle.std.specs.Prelude.{◌≡◌, ℕ, ◌+◌, List, [], ◌∷◌, length, Option}
use Rattle.unit_outcomes.specs.InDoubt.{AreDoubts}
use Rattle.unit_outcomes.specs.declared.doubts.walk.Doubt.{Doubt}
use Rattle.unit_outcomes.specs.declared.outcome.Outcome.{Outcome}
use Rattle.output_order.specs.OutputOrder.{positions_of}
use Rattle.request_core.specs.Fold.{outcomes_of}
use Rattle.unit_printing.specs.JsonLines.{unit_line}
use Rattle.unit_printing.specs.Seen.{stream_seen}
use Rattle.unit_printing.specs.declared.json.encoding.DecodeMode.{DecodeMode}
use Rattle.unit_printing.specs.declared.json.json_line.JsonLine.{JsonLine}

-- the units with ids from this one on
abbrev pub numbered_from : ℕ → List (List (List ℕ)) → List (ℕ × List (List ℕ))
numbered_from id [] = []
numbered_from id (unit ∷ units) = (id, unit) ∷ numbered_from (id + 1) units

-- the lines of units with ids from this one on, by the outcome of each, its position, and what is
-- told of it
abbrev pub json_lines : DecodeMode → ℕ → List Outcome → List (Option ℕ) → List Doubt → List JsonLine
json_lines mode id [] positions doubts = []
json_lines mode id (outcome ∷ outcomes) [] doubts = []
json_lines mode id (outcome ∷ outcomes) (position ∷ positions) [] = []
json_lines mode id (outcome ∷ outcomes) (position ∷ positions) (doubt ∷ doubts) =
    unit_line mode id position outcome doubt ∷ json_lines mode (id + 1) outcomes positions doubts

-- the outcomes of a stream's plain fold
abbrev pub stream_outcomes : List (List (List ℕ)) → List Outcome
stream_outcomes units = outcomes_of (numbered_from 1 units)

-- the lines of a stream with these outcomes: where in the output each picture stands, and which are
-- in doubt
pub record AreLinesOf (mode : DecodeMode) (units : List (List (List ℕ))) (outcomes : List Outcome) (lines : List JsonLine) : Type 0 where
  pub doubts : List Doubt
  pub are_told : AreDoubts (stream_seen units outcomes) 0 (length units) doubts
  pub are_lines : lines ≡ json_lines mode 1 outcomes (positions_of outcomes) doubts

-- the lines of a stream
abbrev pub AreStreamLines : DecodeMode → List (List (List ℕ)) → List JsonLine → Type 0
AreStreamLines mode units lines = AreLinesOf mode units (stream_outcomes units) lines
