-- The lines of units, printed one after the other.
use Rattle.std.proofs.Common.{◌≡◌, ℕ, ◌+◌, ◌<◌, ◌≤◌, List, length, get_or, drop, refl, Option, None}
use Rattle.std.proofs.lemmas.List.{drop_all, drop_more}
use Rattle.unit_outcomes.specs.InDoubt.{AreDoubts}
use Rattle.unit_outcomes.specs.declared.doubts.walk.Doubt.{Doubt}
use Rattle.output_order.specs.OutputOrder.{positions_of}
use Rattle.unit_outcomes.specs.declared.outcome.Outcome.{Outcome}
use Rattle.unit_printing.specs.JsonLines.{unit_line}
use Rattle.unit_printing.specs.declared.json.encoding.DecodeMode.{DecodeMode}
use Rattle.unit_printing.specs.declared.json.json_line.JsonLine.{JsonLine}
use Rattle.unit_printing.specs.Said.{AreSaid, Said, SaysStream}
use Rattle.unit_printing.specs.Seen.{stream_seen}
use Rattle.unit_printing.specs.StreamLines.{json_lines, stream_outcomes}

-- the lines of the units from a place on
abbrev pub lines_from : DecodeMode → List Outcome → List (Option ℕ) → List Doubt → ℕ → List JsonLine
lines_from mode outcomes positions doubts place =
    json_lines mode (place + 1) (drop place outcomes) (drop place positions) (drop place doubts)

module _ (says : JsonLine → List ℕ → Type 0) (mode : DecodeMode) (outcomes : List Outcome) (positions : List (Option ℕ)) (doubts : List Doubt) (place : ℕ) where
  -- the next line, and the others after it
  pub said-next : (id : ℕ) (outcome : Outcome) (position : Option ℕ) (doubt : Doubt) (old mid new : Option (List ℕ))
      → place < length outcomes → place < length positions → place < length doubts → id ≡ place + 1
      → outcome ≡ get_or outcomes place outcome → position ≡ get_or positions place None → doubt ≡ get_or doubts place doubt
      → Said says (unit_line mode id position outcome doubt) old mid
      → AreSaid says (lines_from mode outcomes positions doubts (place + 1)) mid new
      → AreSaid says (lines_from mode outcomes positions doubts place) old new
  said-next id outcome position doubt old mid new here there known id_is outcome_is position_is doubt_is said rest =
      rw (drop_more outcomes place outcome here, drop_more positions place None there, drop_more doubts place doubt known, ← outcome_is, ← position_is, ← doubt_is) (mid, rw id_is at said, rest)

  -- no line is left behind the last unit
  pub said-all : (end : Option (List ℕ)) → length outcomes ≤ place → AreSaid says (lines_from mode outcomes positions doubts place) end end
  said-all end behind = rw (drop_all place outcomes behind) refl

-- the lines of a stream, by its outcomes, their positions and what is told of them
pub says-stream : (says : JsonLine → List ℕ → Type 0) (mode : DecodeMode) (units : List (List (List ℕ))) (outcomes : List Outcome)
    (positions : List (Option ℕ)) (doubts : List Doubt) (old new : Option (List ℕ))
    → outcomes ≡ stream_outcomes units → positions ≡ positions_of (stream_outcomes units)
    → AreDoubts (stream_seen units (stream_outcomes units)) 0 (length units) doubts
    → AreSaid says (json_lines mode 1 outcomes positions doubts) old new → SaysStream says mode units old new
says-stream says mode units outcomes positions doubts old new outcomes_are positions_are are_told said = record {
  lines = json_lines mode 1 outcomes positions doubts;
  of_stream = record {
    doubts = doubts;
    are_told = are_told;
    are_lines = rw (outcomes_are, positions_are) refl;
  };
  said = said;
}
