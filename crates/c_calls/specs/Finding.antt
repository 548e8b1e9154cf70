-- The unit at a position in output order.
use Rattle.std.specs.Prelude.{◌≡◌, ℕ, All, Some, Result, Ok, Err}
use Rattle.stream_edits.specs.Streams.{Stream, ids_of}
use Rattle.stream_session.specs.Streams.{position_in}
use Rattle.c_calls.specs.Statuses.{no_such_place}

-- the unit of the id has the position
abbrev pub HasPosition : Stream → ℕ → ℕ → Type 0
HasPosition stream position id = position_in stream id ≡ Some (Some position)

-- the unit of the id has the position, or no unit of the stream has it
abbrev pub IsAtPosition : Stream → ℕ → Result ℕ ℕ → Type 0
IsAtPosition stream position (Ok id) = HasPosition stream position id
IsAtPosition stream position (Err why) =
    (why ≡ no_such_place) × All (λ id. HasPosition stream position id → ⊥) (ids_of stream)
