-- Where the folds over a stream before and after a change meet.
use Rattle.std.specs.Prelude.{◌≡◌, ◌⊎◌, ℕ, ◌+◌, ◌<◌, ◌≤◌, length}
use Rattle.request_core.specs.Agreement.{Stream}
use Rattle.stream_edits.specs.declared.changes.Change.{Change}
use Rattle.stream_fold.specs.Streams.{state_past}
use Rattle.stream_edits.specs.Changes.{at_of, stream_after, rest_from, units_of}
use Rattle.stream_fold.specs.Changes.{place_after}
use Rattle.stream_fold.specs.StoredStates.{spacing}

-- the folds agree in state past the same units: up to a place before the change, and where that
-- place is after it
abbrev pub AgreeAt : Change → Stream → ℕ → Type 0
AgreeAt change stream place =
    state_past stream place ≡ state_past (stream_after change stream) (place_after change place)

-- so many units past the change the folds agree, or there are no more units
pub record IsMeeting (change : Change) (stream : Stream) (count : ℕ) : Type 0 where
  pub inside : rest_from change + count ≤ length stream
  pub meet : AgreeAt change stream (rest_from change + count) ⊎ (rest_from change + count ≡ length stream)

-- the steps are those of one range, one for each of its units as they are after the change: fewer
-- than the spacing in front of the change, those that it brings, and those past it up to where the
-- folds agree or there are no more
pub record IsCounted (change : Change) (stream : Stream) (steps : ℕ) : Type 0 where
  pub front : ℕ
  pub count : ℕ
  pub before : front ≤ at_of change
  pub close : front < spacing
  pub meets : IsMeeting change stream count
  pub exact : steps ≡ front + length (units_of change) + count
