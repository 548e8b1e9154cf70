-- The ids of a stream.
use Rattle.std.specs.Prelude.{ℕ, ◌<◌, ◌≤◌, count_by}
use Rattle.stream_edits.specs.Streams.{Stream, has_id}
use Rattle.stream_edits.specs.Edits.{Register}

-- how many units have the id
abbrev pub units_with : Stream → ℕ → ℕ
units_with stream id = count_by (has_id id) stream

-- each id is that of one unit at most, and was given: it is 1 or more, and not above the number of
-- ids given
pub record HasIds (register : Register) : Type 0 where
  pub once : (id : ℕ) → units_with register.stream id ≤ 1
  pub given : (id : ℕ) → 0 < units_with register.stream id → (0 < id) × (id ≤ register.ids_given)
