-- What is stored after accepted edits.
use Rattle.std.proofs.Common.{◌≡◌, ℕ, List, refl, ◌∙◌}
use Rattle.request_core.specs.Fold.{outcomes_of}
use Rattle.picture_keys.specs.declared.changed_units.changed.Changed.{Changed}
use Rattle.picture_store.specs.Stores.{StoreValue}
use Rattle.stream_edits.specs.declared.changes.Change.{Change}
use Rattle.stream_edits.specs.declared.edits.Edit.{Edit}
use Rattle.stream_edits.specs.Edits.{Register}
use Rattle.stream_edits.specs.Changes.{after}
use Rattle.stream_edits.specs.Streams.{ids_of}
use Rattle.stream_edits.proofs.Grouped.{Replays-entry, length-all}
use Rattle.stream_session.specs.Stored.{History, IsSound, machine_of, with_entry}
use Rattle.stream_session.specs.Machines.{RefitsTo, store_of}
use Rattle.stream_session.specs.Moves.{ComeTo, Moves, MovesPictures}
use Rattle.stream_session.proofs.Pictured.{IsStoreOf-kept, RefitsTo-stored}

module _ {P : Type 0} (history : History) (old : Register) (store : StoreValue P) (edits : List Edit) (change : Change) (given : ℕ)
    (steps lost : ℕ) (changed : Changed) (refit : StoreValue P) (kept : IsSound history old store) (come : ComeTo old edits change given)
    (moves : MovesPictures store old.stream change steps lost changed refit) where
  abbrev new : Register
  new = after change given old.stream

  -- what edits leave may be stored next
  pub IsSound-after : IsSound (with_entry history edits) new refit
  IsSound-after = record {
    identified = moves.refits.ids_are;
    folded = moves.refits.outcomes_are;
    bounded = length-all old edits come.0 new come.1 kept.bounded;
    based = kept.based;
    replayed = Replays-entry history.origin history.entries old edits come.0 new kept.replayed come.1;
  }

  seen : (refits : RefitsTo (store_of (machine_of history old store)) new.stream (store_of (machine_of (with_entry history edits) new refit)))
      × (refits.lost ≡ lost)
  seen =
      RefitsTo-stored history old store (with_entry history edits) new (ids_of new.stream) (outcomes_of new.stream) refit lost
      (IsStoreOf-kept history old store kept) refl refl (moves.refits, moves.loses)

  -- and is what the edits leave
  pub Moves-after : Moves (machine_of history old store) edits change given steps lost changed (machine_of (with_entry history edits) new refit)
  Moves-after = record {
    register_is = refl;
    origin_stays = refl;
    journaled = refl;
    refits = seen.0;
    loses = seen.1;
    few = moves.few;
    counted = moves.counted;
    changes = moves.changes;
  }
