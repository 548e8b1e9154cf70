-- What a session stores, beside what contracts see of it.
use Rattle.std.specs.Prelude.{◌≡◌, ◌≤◌, ◌++◌, List, [], ◌∷◌, length, map, All, None}
use Rattle.access_unit.specs.Refusals.{refusal_of}
use Rattle.request_core.specs.Fold.{outcomes_of}
use Rattle.picture_keys.specs.Units.{AreDifferent}
use Rattle.stream_edits.specs.declared.edits.Edit.{Edit}
use Rattle.picture_store.specs.declared.changing.UnitSplice.{UnitSplice}
use Rattle.stream_fold.specs.declared.ordered.PreparedChange.{PreparedChange}
use Rattle.stream_edits.specs.declared.changes.Change.{Change}
use Rattle.stream_edits.specs.Journals.{edits_of}
use Rattle.stream_fold.specs.Meeting.{IsCounted}
use Rattle.stream_fold.specs.Prepared.{change_in, steps_in}
use Rattle.stream_fold.specs.Ordered.{OrderedValue}
use Rattle.stream_fold.specs.OrderedChange as ordering
use Rattle.picture_store.specs.Stores.{StoreValue}
use Rattle.access_unit.specs.StreamUnits.{most_units}
use Rattle.stream_edits.specs.Edits.{Register, Replays}
use Rattle.stream_edits.specs.Streams.{Stream, ids_of}
use Rattle.stream_edits.specs.Snapshots.{IsAnyOf}
use Rattle.stream_session.specs.Machines.{Machine}
use Rattle.stream_session.specs.Moves.{MakesFew}
use Rattle.stream_session.specs.Splices.{IsSpliceOf}

-- a stream that a session may have: its ids differ, none of its units is refused, and they are not
-- too many
pub record CanStand (stream : Stream) : Type 0 where
  pub differ : AreDifferent (ids_of stream)
  pub accepted : All (λ unit. refusal_of unit.1 ≡ None) stream
  pub bounded : length stream ≤ most_units

-- what a session began from, and the accepted edits since then
pub record History : Type 0 where
  pub origin : Register
  pub entries : List (List Edit)

-- with an entry more
abbrev pub with_entry : History → List Edit → History
with_entry history edits = record history { entries = history.entries ++ edits ∷ [] }

module _ {P : Type 0} where
  -- what contracts see of a session, of which this is stored
  abbrev pub machine_of : History → Register → StoreValue P → Machine P
  machine_of history register store = record {
    capacity = store.capacity;
    origin = history.origin;
    journal = history.entries;
    register = register;
    numbers = store.numbers;
    held = store.held;
    cached = store.cached;
    pictures = store.pictures;
    jobs_out = store.jobs_out;
    jobs = store.jobs_given;
    marked = store.marked;
  }

  -- ids and outcomes are those of the stream, which is what the accepted edits lead to from a
  -- snapshot
  pub record IsSound (history : History) (register : Register) (store : StoreValue P) : Type 0 where
    pub identified : store.ids ≡ ids_of register.stream
    pub folded : store.outcomes ≡ outcomes_of register.stream
    pub bounded : length register.stream ≤ most_units
    pub based : IsAnyOf history.origin
    pub replayed : Replays history.origin (edits_of history.entries) register

-- what is prepared is the change, in few steps, each of them counted, and the splice that this
-- makes anew
pub record IsPrepared (change : Change) (stream : Stream) (ordered : OrderedValue) (prepared : PreparedChange) (splice : UnitSplice)
    : Type 0 where
  pub change_is : change_in prepared.refolded ≡ change
  pub ready : ordering.IsPrepared ordered prepared
  pub splice_is : IsSpliceOf change stream splice
  pub few : MakesFew change stream (steps_in prepared.refolded)
  pub counted : IsCounted change stream (steps_in prepared.refolded)
