-- The fold over a prefix of a stream.
use Rattle.std.specs.Prelude.{ℕ, take}
use Rattle.request_core.specs.States.{FoldState, no_units}
use Rattle.request_core.specs.Agreement.{Stream, state_from}

-- the state past so many units of a stream
abbrev pub state_past : Stream → ℕ → FoldState
state_past stream place = state_from no_units (take place stream)
