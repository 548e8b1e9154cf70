-- A session that begins from a snapshot.
use Rattle.std.proofs.Common.{◌≡◌, ℕ, List, [], length, refl, ap, sym, ◌∙◌, subst, arith}
use Rattle.std.proofs.lemmas.List.{append-nil}
use Rattle.std.proofs.lemmas.List.Elements.{All-nil}
use Rattle.request_core.specs.Fold.{outcomes_of}
use Rattle.picture_keys.specs.declared.changed_units.changed.Changed.{Changed}
use Rattle.picture_store.specs.Stores as stores
use Rattle.picture_store.specs.Stores.{StoreValue}
use Rattle.stream_fold.proofs.Decodable.{IsNotRefused}
use Rattle.stream_edits.specs.declared.changes.Change.{Change}
use Rattle.stream_edits.specs.Changes.{at_of, rest_from, stream_after, units_of}
use Rattle.stream_edits.specs.Edits.{Register, no_units}
use Rattle.stream_edits.specs.Streams.{Stream, ids_of}
use Rattle.stream_edits.proofs.GivenIds.{AreDifferent-ids}
use Rattle.stream_edits.specs.Snapshots.{IsAnyOf}
use Rattle.stream_edits.proofs.SnapshotsAccepted.{accepted-snapshot}
use Rattle.stream_session.specs.Stored.{CanStand, History, IsSound, machine_of}
use Rattle.stream_session.specs.Machines.{IsBegun, RefitsTo, empty, store_of}
use Rattle.stream_session.specs.Moves.{MovesPictures}
use Rattle.stream_session.proofs.Pictured.{IsStoreOf, RefitsTo-stored}

-- no units
pub CanStand-none : CanStand []
CanStand-none = record {
  differ = λ id. omega arith;
  accepted = All-nil IsNotRefused;
  bounded = omega arith;
}

-- the units of a snapshot
pub CanStand-snapshot : (origin : Register) → IsAnyOf origin → CanStand origin.stream
CanStand-snapshot origin is = record {
  differ = AreDifferent-ids origin is.1.differ;
  accepted = accepted-snapshot origin is;
  bounded = is.1.bounded;
}

-- the change that brings all units
pub all_brought : (change : Change) (stream : Stream) → at_of change ≡ 0 → rest_from change ≡ 0 → units_of change ≡ stream
    → stream_after change [] ≡ stream
all_brought change stream at rest units = rw (at, rest, units) (append-nil stream)

module _ {P : Type 0} (capacity : ℕ) (origin : Register) (change : Change) (steps lost : ℕ) (changed : Changed) (store : StoreValue P)
    (is : IsAnyOf origin) (brings : stream_after change [] ≡ origin.stream)
    (moves : MovesPictures (stores.empty capacity) [] change steps lost changed store) where
  history : History
  history = record { origin = origin; entries = [] }

  refits : RefitsTo (stores.empty capacity) origin.stream store
  refits = subst (λ (stream : Stream). RefitsTo (stores.empty capacity) stream store) brings moves.refits

  -- may be stored
  pub IsSound-begun : IsSound (record { origin = origin; entries = [] }) origin store
  IsSound-begun = record {
    identified = refits.ids_are;
    folded = refits.outcomes_are;
    bounded = is.1.bounded;
    based = is;
    replayed = refl;
  }

  -- and begins from the snapshot
  pub IsBegun-begun : IsBegun capacity origin (machine_of (record { origin = origin; entries = [] }) origin store)
  IsBegun-begun = record {
    origin_is = refl;
    register_is = refl;
    journal_is = refl;
    refits =
        (RefitsTo-stored (record { origin = no_units; entries = [] }) no_units (stores.empty capacity) (record { origin = origin; entries = [] }) origin
        (ids_of origin.stream) (outcomes_of origin.stream) store refits.lost (record { identified = refl; folded = refl }) refl refl
        (refits, refl)).0;
  }
