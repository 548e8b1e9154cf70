-- Where access units stand in a file.
use Rattle.std.specs.Prelude.{ℕ, ◌-◌, List, map, slice_index_or}
use Rattle.stream_check.specs.StreamCounts.{most_of}
use Rattle.stream_check.specs.declared.spans.UnitSpan.{UnitSpan}

-- how many bytes the longest access unit has; 0 where there is none
abbrev pub longest : List UnitSpan → ℕ
longest spans = most_of (map (λ place. place.bytes) spans)

-- what is told of a unit that has no place
abbrev pub no_place : UnitSpan
no_place = record { byte = 0; bytes = 0 }

-- where the unit of an id stands, of units whose ids are 1, 2, 3 and so on
abbrev pub place_of : ℕ → List UnitSpan → UnitSpan
place_of id spans = slice_index_or spans (id - 1) no_place
