-- The range of outcomes that a prepared change makes anew.
use Rattle.std.proofs.Common.{◌≡◌, ◌+◌, length, take, ap, ◌∙◌, arith, length-append}
use Rattle.std.proofs.lemmas.List.{length-take-le}
use Rattle.request_core.specs.States.{FoldState, no_units}
use Rattle.request_core.specs.Fold.{outcomes_of}
use Rattle.request_core.specs.Agreement.{Stream}
use Rattle.stream_fold.specs.declared.folded.PreparedFold.{PreparedFold}
use Rattle.stream_fold.specs.declared.refold.Refold.{Refold}
use Rattle.stream_edits.specs.Changes.{IsInside}
use Rattle.stream_fold.specs.StoredStates.{IsFolded}
use Rattle.stream_fold.specs.Refolding.{IsRefolded, IsMadeAnew}
use Rattle.stream_fold.specs.Prepared.{IsAnew}
use Rattle.stream_fold.proofs.Folds.{length-outcomes_from}
use Rattle.stream_fold.proofs.Storage.{States}
use Rattle.stream_fold.proofs.Committed.{from_to, to_inside, outcomes_are}

-- a fold has an outcome for each step
pub as_many : (front : Stream) (fold : Refold) → IsRefolded front fold → length fold.outcomes.items ≡ fold.steps
as_many front fold is =
    let long : length (outcomes_of front) ≡ length front = length-outcomes_from no_units front in
    let begun : length (take fold.from (outcomes_of front)) ≡ fold.from =
    length-take-le fold.from (outcomes_of front) (omega (arith, is.begun, long)) in
    let both : length (outcomes_of front) ≡ length (take fold.from (outcomes_of front)) + length fold.outcomes.items =
    ap length is.outcomes_are ∙ length-append (take fold.from (outcomes_of front)) fold.outcomes.items in
    omega (arith, both, long, begun, is.counted)

module _ (stream : Stream) (states : States) (end : FoldState) (folded : IsFolded stream states end)
    (prepared : PreparedFold) (inside : IsInside prepared.change stream)
    (made : IsMadeAnew prepared.change stream states prepared.fold prepared.met) where
  pub is_anew : IsAnew prepared stream
  is_anew = record {
    ordered = from_to prepared.change stream states end folded inside prepared.fold prepared.met made;
    within = to_inside prepared.change stream states end folded inside prepared.fold prepared.met made;
    counted = as_many _ prepared.fold made.refolded;
    outcomes_are = outcomes_are prepared.change stream states end folded inside prepared.fold prepared.met made;
  }
