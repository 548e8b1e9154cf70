-- A step from one state, with the same keys of its marked frames: the unit has the same key, and so
-- have the frames after it.
use Rattle.std.proofs.Common.{◌≡◌, ℕ, List, [], ◌∷◌, map, filter, Option, Some, Result, Ok, Err, refl, subst}
use Rattle.annexb.specs.NalUnit.{is_slice}
use Rattle.h264_types.specs.declared.pictures.counts.Counts.{Counts}
use Rattle.h264_types.specs.MarkedFrames.{Marked}
use Rattle.slice_decoding.specs.Counting.{counts_of}
use Rattle.slice_decoding.specs.MarksAfter.{marks_after}
use Rattle.unit_outcomes.specs.declared.validity_fault.ValidityFault.{ValidityFault}
use Rattle.unit_outcomes.specs.declared.outcome.Outcome.{Outcome}
use Rattle.unit_outcomes.specs.declared.outcome.Outcome.TheVariants as outcomes
use Rattle.request_core.specs.States.{FoldState}
use Rattle.slice_reading.specs.Numbers.{gathered}
use Rattle.slice_reading.specs.Slices.{SliceRead, slice_at}
use Rattle.slice_reading.specs.Faults.{first_shown, slice_rows}
use Rattle.request_core.specs.Faults.{picture_rows}
use Rattle.request_core.specs.Requests.{ListedSlice, requests_of}
use Rattle.request_core.specs.Fold.{passes, counted, listed, marked, state_after, plan_of, picture_after, picture_of, with_sets, planned, outcome_of, fold_step}
use Rattle.decode_jobs.specs.Keys.{Key}
use Rattle.picture_keys.specs.Known.{Known, key_of, key_of_outcome, known_with}
use Rattle.stream_fold.proofs.Chains.{then_ok}
use Rattle.stream_fold.proofs.MarkedFrames.{marks_after_kept}
use Rattle.stream_fold.proofs.Plans.{marked_kept}
use Rattle.stream_fold.proofs.AlikeKeys.{IsAlike, AreAlike, alike_own, all_alike_more, key_alike}

-- after a unit: its key is the same in both, and so are those of the frames that are marked
pub record StaysAlike (known other : Known) (id : ℕ) (step : FoldState × Outcome) : Type 0 where
  pub key : key_of_outcome known step.1 ≡ key_of_outcome other step.1
  pub frames : AreAlike (known_with known id (key_of_outcome known step.1)) (known_with other id (key_of_outcome other step.1)) step.0.marks.frames

module _ (known other : Known) (state : FoldState) (id : ℕ) (all : AreAlike known other state.marks.frames) where
  -- what is made is this state and this outcome
  made_stays : (after : FoldState) (outcome : Outcome) (made : FoldState × Outcome) → ◌≡◌ {A = Result (FoldState × Outcome) ValidityFault} (Ok (after, outcome)) (Ok made)
      → StaysAlike known other id (after, outcome) → StaysAlike known other id made
  made_stays after outcome made is stays =
      let same : (after, outcome) ≡ made = cc in subst (StaysAlike known other id) same stays

  module _ (first : SliceRead) (others : List SliceRead) where
    -- a picture with its counts, lists and marks
    marked_stays : (counts : Counts) (slices : List ListedSlice) (marks : Marked)
        → marked (marks_after state.marks id first.sps first.header counts) ≡ Ok marks
        → StaysAlike known other id (state_after state first counts marks, outcomes.Plan (plan_of state id first counts slices))
    marked_stays counts slices marks marks_are =
        let one : Key = key_of known (requests_of state.marks.frames counts id slices) in
        let two : Key = key_of other (requests_of state.marks.frames counts id slices) in
        let same : one ≡ two = key_alike known other state.marks.frames all counts id slices in
        let kept = marks_after_kept (IsAlike (known_with known id (Some one)) (known_with other id (Some two))) state.marks id first.sps first.header counts
        (all_alike_more known other id one two state.marks.frames same all) (alike_own known other id one two same) in
        let same_key : ◌≡◌ {A = Option Key} (Some one) (Some two) = cc in
        record {
          key = same_key;
          frames = marked_kept (λ (marks : Marked). AreAlike (known_with known id (Some one)) (known_with other id (Some two)) marks.frames)
              (marks_after state.marks id first.sps first.header counts) marks marks_are kept;
        }

    -- what becomes of a picture
    picture_stays : (made : FoldState × Outcome) → picture_after state id first (first ∷ others) ≡ Ok made → StaysAlike known other id made
    unfolding picture_after
    picture_stays made is =
        let passed = then_ok (passes (first_shown (picture_rows state first.sps first.header))) _ made is in
        let counting = then_ok (counted (counts_of state.anchor first.sps first.header)) _ made passed.2 in
        let listing = then_ok (gathered (map (listed state.marks counting.0) (first ∷ others))) _ made counting.2 in
        let marking = then_ok (marked (marks_after state.marks id first.sps first.header counting.0)) _ made listing.2 in
        made_stays _ _ made marking.2 (marked_stays counting.0 listing.0 marking.0 marking.1)

  -- what becomes of the slices of a unit
  slices_stay : (slices : List SliceRead) (made : FoldState × Outcome) → picture_of state id slices ≡ Ok made
      → StaysAlike known other id made
  slices_stay [] made is = made_stays state outcomes.Empty made is (record { key = refl; frames = all })
  slices_stay (first ∷ others) made is =
      let passed = then_ok (passes (first_shown (slice_rows first others))) (λ passed. picture_after state id first (first ∷ others)) made is in
      picture_stays first others made passed.2

  answer_stays : (unit : List (List ℕ)) (answer : Result (FoldState × Outcome) ValidityFault) → planned state id unit ≡ answer → StaysAlike known other id (outcome_of state answer)
  answer_stays unit (Ok made) is =
      let read = then_ok (gathered (map (slice_at state.tables) (filter is_slice unit))) (picture_of state id) made is in
      slices_stay read.0 made read.2
  answer_stays unit (Err fault) is = record { key = refl; frames = all }

-- one step
pub step_stays : (known other : Known) (state : FoldState) (id : ℕ) (unit : List (List ℕ)) → AreAlike known other state.marks.frames
    → StaysAlike known other id (fold_step state id unit)
unfolding fold_step
step_stays known other state id unit all =
    answer_stays known other (with_sets state unit) id all unit (planned (with_sets state unit) id unit) refl
