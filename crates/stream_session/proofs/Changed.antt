-- A change of a stream and of what is stored of it.
use Rattle.std.proofs.Common.{◌≡◌, ℕ, ◌+◌, ◌^◌, ◌<◌, List, [], ◌++◌, length, take, drop, ap, sym, ◌∙◌, subst, refl, arith, length-append}
use Rattle.std.specs.List.{zip}
use Rattle.request_core.specs.States.{FoldState, marked_ids}
use Rattle.request_core.specs.Fold.{outcomes_of}
use Rattle.unit_outcomes.specs.declared.outcome.Outcome.{Outcome}
use Rattle.picture_keys.specs.Known.{keys_of}
use Rattle.picture_keys.specs.declared.changed_units.changed.Changed.{Changed}
use Rattle.picture_keys.specs.Units.{AreDifferent, compared_units}
use Rattle.picture_keys.specs.Ranges.{IsLeast}
use Rattle.picture_keys.specs.Decodable.{AllCanDecode}
use Rattle.picture_keys.specs.Depending.{DependOn}
use Rattle.stream_fold.specs.Agreement.{becoming}
use Rattle.stream_fold.proofs.Decodable.{AllCanDecode-outcomes_of}
use Rattle.stream_fold.proofs.LaterUnits.{depend_on_marked}
use Rattle.picture_store.specs.Needs.{TellNeeds}
use Rattle.picture_store.specs.Stores as stores
use Rattle.picture_store.specs.Stores.{StoreValue}
use Rattle.picture_store.specs.Changes.{RefitsLosing}
use Rattle.picture_store.specs.Splices.{IsSplice, ids_with, outcomes_with}
use Rattle.stream_edits.specs.declared.changes.Change.{Change}
use Rattle.stream_edits.specs.Changes.{at_of, rest_from, stream_after, units_of}
use Rattle.stream_edits.specs.Streams.{Stream, ids_of}
use Rattle.stream_fold.specs.StoredStates.{ArePast}
use Rattle.stream_fold.specs.Meeting.{IsCounted}
use Rattle.stream_fold.specs.OrderedChange as ordering
use Rattle.stream_fold.specs.Prepared.{change_in, steps_in}
use Rattle.stream_fold.specs.Ordered.{OrderedValue}
use Rattle.picture_store.specs.declared.changing.UnitSplice.{UnitSplice}
use Rattle.stream_fold.specs.declared.ordered.PreparedChange.{PreparedChange}
use Rattle.stream_session.specs.Changing.{ChangesUnits, compared_in}
use Rattle.stream_session.specs.Stored.{CanStand, IsPrepared}
use Rattle.stream_session.specs.Machines.{RefitsTo}
use Rattle.stream_session.specs.Moves.{MakesFew, MovesPictures}
use Rattle.stream_session.specs.Splices.{IsSpliceOf}
use Rattle.stream_session.proofs.Pictured.{IsStoreOf}

-- there is room for the change
pub short-changed : (change : Change) (stream : Stream) → CanStand stream → CanStand (stream_after change stream)
    → length stream + length (units_of change) < 2 ^ 64
short-changed change stream before after =
    omega (
      arith,
      before.bounded,
      after.bounded,
      length-append (take (at_of change) stream ++ units_of change) (drop (rest_from change) stream),
      length-append (take (at_of change) stream) (units_of change),
    )

-- what the fold has prepared, with the splice of it
pub prepared-with : (change : Change) (stream : Stream) (ordered : OrderedValue) (prepared : PreparedChange) (splice : UnitSplice)
    → ordered.folded.stream ≡ stream → ordering.IsPrepared ordered prepared → change_in prepared.refolded ≡ change
    → IsSpliceOf (change_in prepared.refolded) ordered.folded.stream splice
    → MakesFew change stream (steps_in prepared.refolded) → IsCounted change stream (steps_in prepared.refolded)
    → IsPrepared change stream ordered prepared splice
prepared-with change stream ordered prepared splice kept ready change_is splice_is few counted = record {
  change_is = change_is;
  ready = ready;
  splice_is =
      subst (λ change. IsSpliceOf change stream splice) change_is
      (subst (λ stream. IsSpliceOf (change_in prepared.refolded) stream splice) kept splice_is);
  few = few;
  counted = counted;
}

module _ {P : Type 0} where
  -- the states that are stored along the stream tell which keys later units need
  pub needs-told : (stream : Stream) (store : StoreValue P) (states : List (ℕ × FoldState))
      → IsStoreOf stream store → ArePast stream states → TellNeeds states store.ids store.outcomes
  needs-told stream store states stored past =
      subst (λ ids. TellNeeds states ids store.outcomes) (sym stored.identified)
      (subst (λ outcomes. TellNeeds states (ids_of stream) outcomes) (sym stored.folded)
      (λ place state at.
      subst (λ state. DependOn (marked_ids state) (drop place (becoming stream))) (sym (past place state at).is)
      (depend_on_marked stream place)))

  module _ (stream : Stream) (store : StoreValue P) (change : Change) (ordered : OrderedValue) (prepared : PreparedChange) (splice : UnitSplice)
      (stored : IsStoreOf stream store) (after : CanStand (stream_after change stream)) (is : IsPrepared change stream ordered prepared splice) where
    abbrev new : Stream
    new = stream_after change stream

    -- its splice is one of what is stored
    pub splice-prepared : IsSplice splice store.ids
    splice-prepared = subst (IsSplice splice) (sym stored.identified) is.splice_is.is_splice

    ids-prepared : ids_with splice store.ids ≡ ids_of new
    ids-prepared = ap (ids_with splice) stored.identified ∙ is.splice_is.ids_are

    outcomes-prepared : outcomes_with splice store.outcomes ≡ outcomes_of new
    outcomes-prepared = ap (outcomes_with splice) stored.folded ∙ is.splice_is.outcomes_are

    -- with it each unit can be decoded
    pub decodable-prepared : AllCanDecode [] (zip (ids_with splice store.ids) (outcomes_with splice store.outcomes))
    decodable-prepared = rw (ids-prepared, outcomes-prepared) (AllCanDecode-outcomes_of new after.accepted)

    -- its ids differ
    pub apart-prepared : AreDifferent (ids_with splice store.ids)
    apart-prepared = subst AreDifferent (sym ids-prepared) after.differ

    module _ (refit : StoreValue P) (lost : ℕ) (changed : Changed)
        (losing : RefitsLosing store (ids_with splice store.ids) (outcomes_with splice store.outcomes) lost refit)
        (least : IsLeast (stores.compared_in store) (stores.compared_in refit) changed) where
      refits : RefitsLosing store (ids_of new) (outcomes_of new) lost refit
      refits =
          subst (λ (ids : List ℕ). RefitsLosing store ids (outcomes_of new) lost refit) ids-prepared
          (subst (λ (outcomes : List Outcome). RefitsLosing store (ids_with splice store.ids) outcomes lost refit) outcomes-prepared losing)

      same_units : (ids : List ℕ) (outcomes : List Outcome) (of : Stream) → ids ≡ ids_of of → outcomes ≡ outcomes_of of
          → compared_units ids outcomes (keys_of (zip ids outcomes)) ≡ compared_in of
      same_units ids outcomes of identified folded = rw (identified, folded) refl

      changes-after : ChangesUnits stream new changed
      changes-after =
          subst (λ before. IsLeast before (compared_in new) changed) (same_units store.ids store.outcomes stream stored.identified stored.folded)
          (subst (λ after. IsLeast (stores.compared_in store) after changed)
          (same_units refit.ids refit.outcomes new (losing.0.ids_are ∙ ids-prepared) (losing.0.outcomes_are ∙ outcomes-prepared)) least)

      -- the pictures are those of the changed stream
      pub MovesPictures-prepared : MovesPictures store stream change (steps_in prepared.refolded) lost changed refit
      MovesPictures-prepared = record {
        refits = refits.0;
        loses = refits.1;
        few = is.few;
        counted = is.counted;
        changes = changes-after;
      }
