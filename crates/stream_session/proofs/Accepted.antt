-- The stream of a session: its ids differ, and its units were accepted.
use Rattle.std.proofs.Common.{◌≡◌, ℕ, List, [], ◌∷◌, length, All, None, subst}
use Rattle.stream_fold.proofs.Decodable.{IsNotRefused}
use Rattle.picture_store.specs.Stores.{StoreValue}
use Rattle.stream_edits.specs.declared.changes.Change.{Change}
use Rattle.stream_edits.specs.declared.edits.Edit.{Edit}
use Rattle.stream_edits.specs.Changes.{after, stream_after}
use Rattle.stream_edits.specs.Ids.{HasIds}
use Rattle.stream_edits.specs.Streams.{Stream, ids_of}
use Rattle.stream_edits.specs.Edits.{Register, Replays}
use Rattle.stream_edits.specs.Journals.{edits_of}
use Rattle.stream_edits.proofs.Accepted.{accepted-replayed}
use Rattle.stream_edits.proofs.GivenIds.{AreDifferent-ids, HasIds-made}
use Rattle.stream_edits.proofs.Grouped.{HasIds-all, accepted-all, length-all}
use Rattle.stream_edits.specs.Snapshots.{IsAnyOf}
use Rattle.stream_edits.proofs.SnapshotsAccepted.{accepted-snapshot}
use Rattle.stream_session.specs.Stored.{CanStand, History, IsSound}
use Rattle.stream_session.specs.Moves.{ComeTo}

-- edits leave each id to one unit
pub HasIds-replays : (from : Register) (edits : List Edit) (to : Register) → HasIds from → Replays from edits to → HasIds to
HasIds-replays from [] to ids is = subst HasIds is ids
HasIds-replays from (edit ∷ edits) to ids replays =
    HasIds-replays replays.1 edits to (HasIds-made from edit replays.0 replays.1 ids replays.2) replays.3

pub HasIds-reached : (origin : Register) (edits : List Edit) (register : Register) → IsAnyOf origin → Replays origin edits register
    → HasIds register
HasIds-reached origin edits register based replays = HasIds-replays origin edits register based.1.differ replays

module _ {P : Type 0} (history : History) (register : Register) (store : StoreValue P) (kept : IsSound history register store) where
  -- ids of a session
  pub HasIds-kept : HasIds register
  HasIds-kept = HasIds-reached history.origin (edits_of history.entries) register kept.based kept.replayed

  accepted-kept : All IsNotRefused register.stream
  accepted-kept =
      accepted-replayed history.origin (edits_of history.entries) register (accepted-snapshot history.origin kept.based) kept.replayed

  -- so its stream can stand
  pub CanStand-kept : CanStand register.stream
  CanStand-kept = record {
    differ = AreDifferent-ids register HasIds-kept;
    accepted = accepted-kept;
    bounded = kept.bounded;
  }

  -- also after edits that come to a change
  pub CanStand-after : (edits : List Edit) (change : Change) (given : ℕ) → ComeTo register edits change given
      → CanStand (stream_after change register.stream)
  CanStand-after edits change given come =
      let new = after change given register.stream in
      record {
        differ = AreDifferent-ids new (HasIds-all register edits come.0 new HasIds-kept come.1);
        accepted = accepted-all register edits come.0 new accepted-kept come.1;
        bounded = length-all register edits come.0 new come.1 kept.bounded;
      }
