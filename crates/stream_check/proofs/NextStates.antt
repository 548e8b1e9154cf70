-- What a step of the fold leaves of what frame_num of the next unit is compared with.
use Rattle.std.proofs.Common.{◌≡◌, ℕ, Bool, true, false, not, List, [], ◌∷◌, map, filter, Option, Result, Ok, Err, if◌then◌else◌, refl, ap, sym, subst}
use Rattle.std.specs.Prelude.{◌==◌, ◌&&◌, ◌||◌}
use Rattle.std.proofs.lemmas.Bool.{eqb-true}
use Rattle.annexb.specs.NalUnit.{is_slice}
use Rattle.access_unit.specs.Sets.{sets_of}
use Rattle.h264_types.specs.Chains.{◌>>=◌}
use Rattle.h264_types.specs.declared.pictures.counts.Counts.{Counts}
use Rattle.h264_types.specs.Resetting.{has_operation_five}
use Rattle.slice_decoding.specs.Counting.{counts_of}
use Rattle.h264_types.specs.declared.param_sets.sps.Sps.{Sps}
use Rattle.h264_types.specs.declared.slice_headers.slice_headers.SliceHeader.{SliceHeader}
use Rattle.h264_types.specs.Pictures.{is_idr, is_reference}
use Rattle.slice_decoding.specs.declared.ref_lists.fault.ListFault.{ListFault}
use Rattle.slice_decoding.specs.MarksAfter.{marks_after}
use Rattle.unit_outcomes.specs.declared.validity_fault.ValidityFault.{ValidityFault}
use Rattle.unit_outcomes.specs.declared.validity_fault.ValidityFault.TheVariants.{NoIdr, SpsChange, IdrFrameNum, FrameNumGap, FrameNumRepeat}
use Rattle.unit_outcomes.specs.declared.outcome.Outcome.{Outcome}
use Rattle.unit_outcomes.specs.declared.outcome.Outcome.TheVariants as outcomes
use Rattle.slice_reading.specs.Numbers.{joined, gathered}
use Rattle.slice_reading.specs.ParameterSets.{put_all}
use Rattle.slice_reading.specs.Slices.{SliceRead, slice_at}
use Rattle.slice_reading.specs.Faults.{Row, first_shown, slice_rows}
use Rattle.request_core.specs.States.{FoldState}
use Rattle.request_core.specs.Faults.{follows, is_active, is_none, picture_rows, repeats}
use Rattle.request_core.specs.Requests.{ListedSlice}
use Rattle.request_core.specs.Fold.{passes, counted, listed, with_lists, marked, next_ref_frame_num, plan_of, picture_after, picture_of, with_sets, planned, outcome_of, fold_step}
use Rattle.stream_check.specs.Problems.{last_after, last_after_plan}

-- where both of two parts give something
then_ok : {A B E : Type 0} (first : Result A E) (next : A → Result B E) (last : B) → (first >>= next) ≡ Ok last
    → (x : A) × (first ≡ Ok x) × (next x ≡ Ok last)
then_ok (Ok value) next last is = (value, refl, is)
then_ok (Err fault) next last is = absurd cc

-- the first of several that give something
first_ok : {A : Type 0} (answer : Result A ValidityFault) (answers : Result (List A) ValidityFault) (given : List A) → joined answer answers ≡ Ok given
    → (x : A) × (xs : List A) × (answer ≡ Ok x) × (given ≡ x ∷ xs)
first_ok (Ok x) (Ok xs) given is = let same : x ∷ xs ≡ given = cc in (x, xs, refl, sym same)
first_ok (Ok x) (Err other) given is = absurd cc
first_ok (Err fault) (Ok xs) given is = absurd cc
first_ok (Err fault) (Err other) given is = absurd cc

-- a slice with its lists is the slice
listed_slice : (slice : SliceRead) (lists : Result (List (Option ℕ) × List (Option ℕ)) ListFault) (x : ListedSlice) → with_lists slice lists ≡ Ok x
    → x.slice ≡ slice
listed_slice slice (Ok lists) x is =
    let same : record { slice = slice; list_0 = lists.0; list_1 = lists.1 } ≡ x = cc in ap (λ (x : ListedSlice). x.slice) (sym same)
listed_slice slice (Err fault) x is = absurd cc

-- frame_num of an IDR picture that shows no fault is 0
idr_by : (idr none other zero : Bool) (rows : List Row)
    → passes (first_shown ((NoIdr, not idr && none) ∷ (SpsChange, not idr && other) ∷ (IdrFrameNum, idr && not zero) ∷ rows)) ≡ Ok record {}
    → idr ≡ true → zero ≡ true
idr_by true none other true rows passed is = refl
idr_by true none other false rows passed is = absurd cc
idr_by false none other zero rows passed is = absurd cc

idr_zero : (state : FoldState) (sps : Sps) (header : SliceHeader) → passes (first_shown (picture_rows state sps header)) ≡ Ok record {}
    → is_idr header ≡ true → header.frame_num ≡ 0
idr_zero state sps header passed is =
    let others : List Row =
    (FrameNumGap, not (is_idr header) && not (follows state sps header))
    ∷ (FrameNumRepeat, not (is_idr header) && is_reference header && repeats state header) ∷ [] in
    eqb-true header.frame_num 0 (idr_by (is_idr header) (is_none state.active) (not (is_active sps state.active)) (header.frame_num == 0) others passed is)

-- the number by what is so of the picture
by_flags : (none idr five : Bool) (frame_num last : ℕ) → (idr ≡ true → frame_num ≡ 0)
    → (if not none then (if five then 0 else frame_num) else last) ≡ (if none then last else if idr || five then 0 else frame_num)
by_flags true idr five frame_num last zero = refl
by_flags false true true frame_num last zero = refl
by_flags false true false frame_num last zero = zero refl
by_flags false false true frame_num last zero = refl
by_flags false false false frame_num last zero = refl

-- a unit with a picture
module _ (state : FoldState) (id : ℕ) (first : SliceRead) (others : List SliceRead) where
  -- by the requests of its slices, which begin with the first
  planned_last : (counts : Counts) (slices : List ListedSlice) (x : ListedSlice) (more : List ListedSlice) → slices ≡ x ∷ more → x.slice ≡ first
      → (is_idr first.header ≡ true → first.header.frame_num ≡ 0)
      → next_ref_frame_num state first ≡ last_after_plan state.prev_ref_frame_num (plan_of state id first counts slices)
  planned_last counts slices x [] are is zero =
      rw are (subst (λ (slice : SliceRead). next_ref_frame_num state first ≡ (if slice.header.nal_ref_idc == 0 then state.prev_ref_frame_num
      else if is_idr first.header || has_operation_five first.header then 0 else slice.header.frame_num)) (sym is)
      (by_flags (first.header.nal_ref_idc == 0) (is_idr first.header) (has_operation_five first.header) first.header.frame_num state.prev_ref_frame_num zero))
  planned_last counts slices x (second ∷ more) are is zero =
      rw are (subst (λ (slice : SliceRead). next_ref_frame_num state first ≡ (if slice.header.nal_ref_idc == 0 then state.prev_ref_frame_num
      else if is_idr first.header || has_operation_five first.header then 0 else slice.header.frame_num)) (sym is)
      (by_flags (first.header.nal_ref_idc == 0) (is_idr first.header) (has_operation_five first.header) first.header.frame_num state.prev_ref_frame_num zero))

-- what a step leaves: the parameter sets, and the number after the outcome
pub record Leaves (before : FoldState) (step : FoldState × Outcome) : Type 0 where
  pub tables : step.0.tables ≡ before.tables
  pub last : step.0.prev_ref_frame_num ≡ last_after before.prev_ref_frame_num step.1

module _ (state : FoldState) (id : ℕ) where
  made_leaves : (after : FoldState) (outcome : Outcome) (made : FoldState × Outcome)
      → ◌≡◌ {A = Result (FoldState × Outcome) ValidityFault} (Ok (after, outcome)) (Ok made)
      → Leaves state (after, outcome) → Leaves state made
  made_leaves after outcome made is leaves = let same : (after, outcome) ≡ made = cc in subst (Leaves state) same leaves

  picture_leaves : (first : SliceRead) (others : List SliceRead) (made : FoldState × Outcome)
      → picture_after state id first (first ∷ others) ≡ Ok made → Leaves state made
  unfolding picture_after
  picture_leaves first others made is =
      let passed = then_ok (passes (first_shown (picture_rows state first.sps first.header))) _ made is in
      let counting = then_ok (counted (counts_of state.anchor first.sps first.header)) _ made passed.2 in
      let listing = then_ok (gathered (map (listed state.marks counting.0) (first ∷ others))) _ made counting.2 in
      let marking = then_ok (marked (marks_after state.marks id first.sps first.header counting.0)) _ made listing.2 in
      let some = first_ok (listed state.marks counting.0 first) (gathered (map (listed state.marks counting.0) others)) listing.0 listing.1 in
      made_leaves _ _ made marking.2 (record {
        tables = refl;
        last = planned_last state id first others counting.0 listing.0 some.0 some.1 some.3 (listed_slice first _ some.0 some.2)
            (idr_zero state first.sps first.header passed.1);
      })

  slices_leave : (slices : List SliceRead) (made : FoldState × Outcome) → picture_of state id slices ≡ Ok made → Leaves state made
  slices_leave [] made is = made_leaves state outcomes.Empty made is (record { tables = refl; last = refl })
  slices_leave (first ∷ others) made is =
      let passed = then_ok (passes (first_shown (slice_rows first others))) (λ passed. picture_after state id first (first ∷ others)) made is in
      picture_leaves first others made passed.2

  answer_leaves : (unit : List (List ℕ)) (answer : Result (FoldState × Outcome) ValidityFault) → planned state id unit ≡ answer
      → Leaves state (outcome_of state answer)
  answer_leaves unit (Ok made) is =
      let read = then_ok (gathered (map (slice_at state.tables) (filter is_slice unit))) (picture_of state id) made is in
      slices_leave read.0 made read.2
  answer_leaves unit (Err fault) is = record { tables = refl; last = refl }

step_leaves : (state : FoldState) (id : ℕ) (unit : List (List ℕ)) → Leaves (with_sets state unit) (fold_step state id unit)
unfolding fold_step
step_leaves state id unit = answer_leaves (with_sets state unit) id unit (planned (with_sets state unit) id unit) refl

pub step_tables : (state : FoldState) (id : ℕ) (unit : List (List ℕ)) → (fold_step state id unit).0.tables ≡ put_all state.tables (sets_of unit)
step_tables state id unit = (step_leaves state id unit).tables

pub step_last : (state : FoldState) (id : ℕ) (unit : List (List ℕ))
    → (fold_step state id unit).0.prev_ref_frame_num ≡ last_after state.prev_ref_frame_num (fold_step state id unit).1
step_last state id unit = (step_leaves state id unit).last
