-- A stream of access units, and places in it.
use Rattle.std.specs.Prelude.{ℕ, ◌+◌, ◌-◌, ◌==◌, Bool, List, length, Option, Some, None, map, position, slice_get, option_map}
use Rattle.stream_edits.specs.declared.edits.InsertionPoint.{InsertionPoint}
use Rattle.stream_edits.specs.declared.edits.InsertionPoint.TheVariants.{First, After}
use Rattle.stream_edits.specs.declared.receipts.Last.{Last}

-- access units under their ids, in decoding order; each is the list of its NAL units
abbrev pub Stream : Type 0
Stream = List (ℕ × List (List ℕ))

-- the ids of the units
abbrev pub ids_of : Stream → List ℕ
ids_of stream = map (λ unit. unit.0) stream

-- whether the unit has the id
abbrev pub has_id : ℕ → ℕ × List (List ℕ) → Bool
has_id id unit = unit.0 == id

-- the place of the id among ids, if it is one of them
unfoldable pub place_among : List ℕ → ℕ → Option ℕ
place_among ids id = position (λ other. other == id) ids

-- the place of the unit that has the id, if one has it
abbrev pub place_of : Stream → ℕ → Option ℕ
place_of stream id = place_among (ids_of stream) id

-- the place at which a unit is inserted among those of these ids, if there is such a place
abbrev pub start_among : List ℕ → InsertionPoint → Option ℕ
start_among ids First = Some 0
start_among ids (After id) = option_map (λ place. place + 1) (place_among ids id)

-- the place at which a unit is inserted, if there is such a place
abbrev pub start_of : Stream → InsertionPoint → Option ℕ
start_of stream place = start_among (ids_of stream) place

-- the end of a stream
abbrev pub last_of : Stream → Last
last_of stream =
    record { units = length stream; id = option_map (λ unit. unit.0) (slice_get stream (length stream - 1)) }

-- the place after the unit of this id, or the first one where there is none
abbrev pub place_after : Option ℕ → InsertionPoint
place_after (Some id) = After id
place_after None = First

-- the place after all units
abbrev pub end_of : Stream → InsertionPoint
end_of stream = place_after (last_of stream).id
