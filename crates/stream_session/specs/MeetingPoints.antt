-- Where the folds over two streams meet, in a rest that both have in common.
use Rattle.std.specs.Prelude.{◌≡◌, ◌⊎◌, ℕ, ◌+◌, ◌-◌, ◌≤◌, length}
use Rattle.stream_edits.specs.Common.{IsFront, IsRest}
use Rattle.stream_edits.specs.Streams.{Stream}
use Rattle.stream_fold.specs.Streams.{state_past}

-- both have so many units in common in front and so many, all behind those, at the end; past so
-- many of the latter the folds agree in state, or there are no more units
pub record IsMeetingPoint (old new : Stream) (front rest count : ℕ) : Type 0 where
  pub in_front : IsFront old new front
  pub at_end : IsRest old new rest
  pub behind_old : front + rest ≤ length old
  pub behind_new : front + rest ≤ length new
  pub inside : count ≤ rest
  pub meet : (state_past old (length old - rest + count) ≡ state_past new (length new - rest + count)) ⊎ (count ≡ rest)
