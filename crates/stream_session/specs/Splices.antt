-- The splice of units that a change makes.
use Rattle.std.specs.Prelude.{◌≡◌, ℕ, ◌-◌, List, ◌++◌, take, drop}
use Rattle.request_core.specs.Fold.{outcomes_of}
use Rattle.picture_store.specs.declared.changing.UnitSplice.{UnitSplice}
use Rattle.picture_store.specs.Splices.{IsSplice, ids_with, outcomes_with}
use Rattle.stream_edits.specs.declared.changes.Change.{Change}
use Rattle.stream_edits.specs.Changes.{rest_from, units_of, stream_after}
use Rattle.stream_edits.specs.Streams.{Stream, ids_of}

-- the ids of the units that a change brings, and of those behind it up to a place
abbrev pub ids_anew : Change → Stream → ℕ → List ℕ
ids_anew change stream to =
    ids_of (units_of change) ++ ids_of (take (to - rest_from change) (drop (rest_from change) stream))

-- with the splice the units are those of the changed stream, each with its outcome
pub record IsSpliceOf (change : Change) (stream : Stream) (splice : UnitSplice) : Type 0 where
  pub is_splice : IsSplice splice (ids_of stream)
  pub ids_are : ids_with splice (ids_of stream) ≡ ids_of (stream_after change stream)
  pub outcomes_are : outcomes_with splice (outcomes_of stream) ≡ outcomes_of (stream_after change stream)
