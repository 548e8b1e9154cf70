-- Where NAL units stand in a text.
use Rattle.std.specs.Prelude.{ℕ, ◌≤◌, List, length, map, slice_range}
use Rattle.std.specs.declared.ops.Range.{Range}

-- what stands in the text at each of the places
abbrev pub units_at : List ℕ → List (Range ℕ) → List (List ℕ)
units_at text places = map (λ place. slice_range text place.start place.end) places

-- the place is one of the text
pub record IsWithin (text : List ℕ) (place : Range ℕ) : Type 0 where
  pub ordered : place.start ≤ place.end
  pub within : place.end ≤ length text
