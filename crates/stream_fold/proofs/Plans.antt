-- The plan of a unit that isn't refused can be decoded, and the units of the frames after it are
-- known.
use Rattle.std.proofs.Common.{◌≡◌, ℕ, Bool, true, List, [], ◌∷◌, map, filter, All, None, Some, Result, Ok, Err, IfOk, refl, sym, subst}
use Rattle.std.proofs.lemmas.List.Elements.{All-filter, All-weaker}
use Rattle.annexb.specs.NalUnit.{is_slice}
use Rattle.access_unit.specs.Refusals.{refusal_of}
use Rattle.h264_types.specs.declared.pictures.counts.Counts.{Counts}
use Rattle.h264_types.specs.MarkedFrames.{Marked}
use Rattle.slice_decoding.specs.Counting.{counts_of}
use Rattle.slice_decoding.specs.declared.ref_marking.fault.MarkFault.{MarkFault}
use Rattle.slice_decoding.specs.declared.ref_marking.fault.MarkFault.TheVariants.{BadMarking, NoShortTerm, TooManyReferences}
use Rattle.slice_decoding.specs.MarksAfter.{marks_after}
use Rattle.decode_jobs.specs.Inputs.{are_of_one_picture}
use Rattle.unit_outcomes.specs.declared.validity_fault.ValidityFault.{ValidityFault}
use Rattle.unit_outcomes.specs.declared.outcome.Outcome.{Outcome}
use Rattle.unit_outcomes.specs.declared.outcome.Outcome.TheVariants as outcomes
use Rattle.request_core.specs.States.{FoldState}
use Rattle.slice_reading.specs.Numbers.{gathered}
use Rattle.slice_reading.specs.Slices.{SliceRead, slice_at}
use Rattle.slice_reading.specs.Faults.{first_shown, slice_rows}
use Rattle.request_core.specs.Faults.{picture_rows}
use Rattle.request_core.specs.Requests.{ListedSlice, request_of, requests_of}
use Rattle.request_core.specs.Fold.{passes, counted, listed, marked, state_after, plan_of, picture_after, picture_of, with_sets, planned, outcome_of, fold_step}
use Rattle.picture_keys.specs.Known.{Known, key_of, key_of_outcome, known_with}
use Rattle.picture_keys.specs.Decodable.{RequestNamesKnown, CanDecode, OutcomeCanDecode}
use Rattle.stream_fold.proofs.Chains.{then_ok}
use Rattle.stream_fold.proofs.MarkedFrames.{marks_after_kept}
use Rattle.stream_fold.proofs.IntraSlices.{IsAllowed, allowed_units}
use Rattle.stream_fold.proofs.ReadSlices.{IsIntraInIdr, read_allowed}
use Rattle.stream_fold.proofs.Gathered.{all_gathered, some_gathered}
use Rattle.stream_fold.proofs.Requests.{one_picture, all_requests}
use Rattle.stream_fold.proofs.KnownUnits.{IsKnown, AreKnown, all_known_more, known_last}
use Rattle.stream_fold.proofs.NamedUnits.{NamesKnownOnly, listed_named}

-- after a unit: it can be decoded, and the units of the marked frames are known
pub record GoesOn (known : Known) (id : ℕ) (step : FoldState × Outcome) : Type 0 where
  pub can : OutcomeCanDecode known step.1
  pub are_known : AreKnown (known_with known id (key_of_outcome known step.1)) step.0.marks.frames

-- what holds of the frames after marking holds of those that the fold goes on with
pub marked_kept : (Holds : Marked → Type 0) (answer : Result Marked MarkFault) (marks : Marked) → marked answer ≡ Ok marks → IfOk answer Holds → Holds marks
marked_kept Holds (Ok after) marks is holds = let same : after ≡ marks = cc in subst Holds same holds
marked_kept Holds (Err TooManyReferences) marks is holds = absurd cc
marked_kept Holds (Err BadMarking) marks is holds = absurd cc
marked_kept Holds (Err NoShortTerm) marks is holds = absurd cc

module _ (known : Known) (state : FoldState) (id : ℕ) (all : AreKnown known state.marks.frames) where
  -- the requests of slices with their lists can be decoded
  can_decode : (counts : Counts) (listed : List ListedSlice) (first : ListedSlice) (more : List ListedSlice) → listed ≡ first ∷ more
      → All (NamesKnownOnly known state.marks) listed → CanDecode known (requests_of state.marks.frames counts id listed)
  can_decode counts listed first more is named = record {
    one_picture = subst (λ (slices : List ListedSlice). are_of_one_picture (requests_of state.marks.frames counts id slices) ≡ true) (sym is)
        (one_picture state.marks.frames counts id first more);
    named = all_requests state.marks.frames counts id (RequestNamesKnown known) listed
        (All-weaker (NamesKnownOnly known state.marks)
        (λ (slice : ListedSlice). (hold : Bool) → RequestNamesKnown known (request_of state.marks.frames counts id slice hold))
        (λ slice names hold. names) listed named);
  }

  -- what is made is this state and this outcome
  made_goes_on : (after : FoldState) (outcome : Outcome) (made : FoldState × Outcome) → ◌≡◌ {A = Result (FoldState × Outcome) ValidityFault} (Ok (after, outcome)) (Ok made)
      → GoesOn known id (after, outcome) → GoesOn known id made
  made_goes_on after outcome made is goes_on =
      let same : (after, outcome) ≡ made = cc in subst (GoesOn known id) same goes_on

  module _ (first : SliceRead) (others : List SliceRead) (intra : All IsIntraInIdr (first ∷ others)) where
    -- a picture whose slices are without lists where it is IDR, with its counts, lists and marks
    marked_goes_on : (counts : Counts) (slices : List ListedSlice) (marks : Marked) → gathered (map (listed state.marks counts) (first ∷ others)) ≡ Ok slices
        → marked (marks_after state.marks id first.sps first.header counts) ≡ Ok marks
        → GoesOn known id (state_after state first counts marks, outcomes.Plan (plan_of state id first counts slices))
    marked_goes_on counts slices marks lists_are marks_are =
        let some = some_gathered (listed state.marks counts first) (map (listed state.marks counts) others) slices lists_are in
        let named = all_gathered IsIntraInIdr (NamesKnownOnly known state.marks) (listed state.marks counts)
        (listed_named known state.marks counts all) (first ∷ others) slices intra lists_are in
        let key = key_of known (requests_of state.marks.frames counts id slices) in
        let kept = marks_after_kept (IsKnown (known_with known id (Some key))) state.marks id first.sps first.header counts
        (all_known_more known id key state.marks.frames all) (known_last known id key) in
        record {
          can = can_decode counts slices some.0 some.1 some.2 named;
          are_known = marked_kept (λ (marks : Marked). AreKnown (known_with known id (Some key)) marks.frames)
              (marks_after state.marks id first.sps first.header counts) marks marks_are kept;
        }

    -- what becomes of such a picture
    picture_goes_on : (made : FoldState × Outcome) → picture_after state id first (first ∷ others) ≡ Ok made → GoesOn known id made
    unfolding picture_after
    picture_goes_on made is =
        let passed = then_ok (passes (first_shown (picture_rows state first.sps first.header))) _ made is in
        let counting = then_ok (counted (counts_of state.anchor first.sps first.header)) _ made passed.2 in
        let listing = then_ok (gathered (map (listed state.marks counting.0) (first ∷ others))) _ made counting.2 in
        let marking = then_ok (marked (marks_after state.marks id first.sps first.header counting.0)) _ made listing.2 in
        made_goes_on _ _ made marking.2 (marked_goes_on counting.0 listing.0 marking.0 listing.1 marking.1)

  -- what becomes of the slices of a unit
  slices_go_on : (slices : List SliceRead) (made : FoldState × Outcome) → All IsIntraInIdr slices → picture_of state id slices ≡ Ok made
      → GoesOn known id made
  slices_go_on [] made intra is = made_goes_on state outcomes.Empty made is (record { can = tt; are_known = all })
  slices_go_on (first ∷ others) made intra is =
      let passed = then_ok (passes (first_shown (slice_rows first others))) (λ passed. picture_after state id first (first ∷ others)) made is in
      picture_goes_on first others intra made passed.2

  module _ (unit : List (List ℕ)) (accepted : refusal_of unit ≡ None) where
    -- where the unit has no fault, and in any case
    unit_goes_on : (made : FoldState × Outcome) → planned state id unit ≡ Ok made → GoesOn known id made
    unit_goes_on made is =
        let slices = filter is_slice unit in
        let read = then_ok (gathered (map (slice_at state.tables) slices)) (picture_of state id) made is in
        let allowed = All-filter is_slice IsAllowed unit (allowed_units unit accepted) in
        slices_go_on read.0 made (all_gathered IsAllowed IsIntraInIdr (slice_at state.tables) (read_allowed state.tables) slices read.0 allowed read.1) read.2

    answer_goes_on : (answer : Result (FoldState × Outcome) ValidityFault) → planned state id unit ≡ answer → GoesOn known id (outcome_of state answer)
    answer_goes_on (Ok made) is = unit_goes_on made is
    answer_goes_on (Err fault) is = record { can = tt; are_known = all }

-- a unit that isn't refused, after units that are known
pub step_goes_on : (known : Known) (state : FoldState) (id : ℕ) (unit : List (List ℕ)) → AreKnown known state.marks.frames → refusal_of unit ≡ None
    → GoesOn known id (fold_step state id unit)
unfolding fold_step
step_goes_on known state id unit all accepted =
    answer_goes_on known (with_sets state unit) id all unit accepted (planned (with_sets state unit) id unit) refl
