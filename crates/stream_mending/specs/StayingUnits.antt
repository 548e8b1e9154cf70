-- Which NAL units stay.
use Rattle.std.specs.Prelude.{ℕ, List, [], ◌∷◌, map}
use Rattle.stream_mending.specs.Segments.{Segment}
use Rattle.stream_mending.specs.Portions.{delimiter}

-- the NAL units of segments
abbrev pub units_at : List Segment → List (List ℕ)
units_at segments = map (λ segment. segment.unit) segments

-- these are some of the given NAL units, in their order, and delimiters that are put among them
pub data IsDrawnFrom : List (List ℕ) → List (List ℕ) → Type 0 where
  nothing : {given : List (List ℕ)} → IsDrawnFrom given []
  passes_over : {unit : List ℕ} {given units : List (List ℕ)} → IsDrawnFrom given units → IsDrawnFrom (unit ∷ given) units
  keeps : {unit : List ℕ} {given units : List (List ℕ)} → IsDrawnFrom given units → IsDrawnFrom (unit ∷ given) (unit ∷ units)
  puts : {given units : List (List ℕ)} → IsDrawnFrom given units → IsDrawnFrom given (delimiter ∷ units)
