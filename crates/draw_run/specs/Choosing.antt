-- Which units of a stream a drawing shows after edits (docs/OUTPUT.md).
use Rattle.std.specs.Prelude.{ℕ, List, length, Option, None, Some, take, drop, unwrap_or}
use Rattle.stream_edits.specs.Streams.{place_among}

-- the place of the first of the ids that are shown: the first one, or this one; past all where it isn't
-- among them
abbrev pub start_among : Option ℕ → List ℕ → ℕ
start_among None ids = 0
start_among (Some from) ids = unwrap_or (place_among ids from) (length ids)

-- so many of the ids, in stream order, from there on
abbrev pub chosen_ids : Option ℕ → ℕ → List ℕ → List ℕ
chosen_ids from units ids = take units (drop (start_among from ids) ids)
