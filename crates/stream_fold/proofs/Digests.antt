-- The bytes of a plan's requests are those of its unit's slices.
use Rattle.std.proofs.Common.{◌≡◌, ℕ, List, [], ◌∷◌, map, filter, Option, None, Some, Result, Ok, Err, refl, sym, ap, ◌∙◌, subst}
use Rattle.h264_types.specs.Chains.{◌>>=◌}
use Rattle.h264_types.specs.declared.param_sets.sps.Sps.{Sps}
use Rattle.h264_types.specs.declared.param_sets.pps.Pps.{Pps}
use Rattle.annexb.specs.NalUnit.{is_slice}
use Rattle.h264_types.specs.declared.slice_headers.slice_headers.SliceHeader.{SliceHeader}
use Rattle.slice_header.specs.declared.fault.HeaderFault.{HeaderFault}
use Rattle.slice_header.specs.declared.front.HeaderFront.{HeaderFront}
use Rattle.slice_header.specs.Fronts.{front_at}
use Rattle.slice_header.specs.SliceHeaders.{header_at}
use Rattle.h264_types.specs.declared.pictures.counts.Counts.{Counts}
use Rattle.h264_types.specs.declared.pictures.frames.Frame.{Frame}
use Rattle.slice_decoding.specs.Counting.{counts_of}
use Rattle.slice_decoding.specs.MarksAfter.{marks_after}
use Rattle.slice_decoding.specs.declared.ref_lists.fault.ListFault.{ListFault}
use Rattle.slice_decoding.specs.ReferenceLists.{lists_of}
use Rattle.unit_outcomes.specs.declared.validity_fault.ValidityFault.{ValidityFault}
use Rattle.unit_outcomes.specs.declared.outcome.Outcome.{Outcome}
use Rattle.unit_outcomes.specs.declared.outcome.Outcome.TheVariants as outcomes
use Rattle.slice_reading.specs.ParameterSets.{ParameterSets, sps_under, pps_under}
use Rattle.slice_reading.specs.Numbers.{joined, gathered}
use Rattle.slice_reading.specs.Slices.{SliceRead, with_header, with_sps, with_pps, with_front, slice_at}
use Rattle.slice_reading.specs.Faults.{first_shown, slice_rows}
use Rattle.request_core.specs.States.{FoldState}
use Rattle.request_core.specs.Faults.{picture_rows}
use Rattle.request_core.specs.Requests.{ListedSlice, requests_of}
use Rattle.request_core.specs.Fold.{passes, counted, with_lists, listed, marked, picture_after, picture_of, with_sets, planned, outcome_of, fold_step}
use Rattle.picture_keys.specs.SliceBytes.{coded, slices_digest}
use Rattle.picture_keys.specs.Digests.{bytes_of, unit_digest, IsDigestOf}

-- there is a value before it
then_ok : {A B E : Type 0} (first : Result A E) (next : A → Result B E) (last : B) → (first >>= next) ≡ Ok last
    → (value : A) × (first ≡ Ok value) × (next value ≡ Ok last)
then_ok (Ok value) next last is = (value, refl, is)
then_ok (Err fault) next last is = absurd cc

-- the first gives something, and so do the others
joined_ok : {A : Type 0} (answer : Result A ValidityFault) (answers : Result (List A) ValidityFault) (given : List A) → joined answer answers ≡ Ok given
    → (x : A) × (xs : List A) × (answer ≡ Ok x) × (answers ≡ Ok xs) × (given ≡ x ∷ xs)
joined_ok (Ok x) (Ok xs) given is = let same : x ∷ xs ≡ given = cc in (x, xs, refl, refl, sym same)
joined_ok (Ok x) (Err other) given is = absurd cc
joined_ok (Err fault) (Ok xs) given is = absurd cc
joined_ok (Err fault) (Err other) given is = absurd cc

-- what each answer keeps of what was asked, all keep
kept_by_all : {A B : Type 0} (of : A → List ℕ) (in_answer : B → List ℕ) (answer : A → Result B ValidityFault)
    → ((x : A) (y : B) → answer x ≡ Ok y → in_answer y ≡ of x)
    → (xs : List A) (ys : List B) → gathered (map answer xs) ≡ Ok ys → map in_answer ys ≡ map of xs
kept_by_all of in_answer answer each [] ys is = let none : [] ≡ ys = cc in ap (map in_answer) (sym none)
kept_by_all of in_answer answer each (x ∷ xs) ys is =
    let parts = joined_ok (answer x) (gathered (map answer xs)) ys is in
    let rest : map in_answer parts.1 ≡ map of xs = kept_by_all of in_answer answer each xs parts.1 parts.3 in
    let first : in_answer parts.0 ≡ of x = each x parts.0 parts.2 in
    ap (map in_answer) parts.4 ∙ (ap (λ y. y ∷ map in_answer parts.1) first ∙ ap (λ (more : List (List ℕ)). of x ∷ more) rest)

-- a slice that is read keeps its NAL unit
by_header : (nal : List ℕ) (sps : Sps) (pps : Pps) (read : Result SliceHeader HeaderFault) (slice : SliceRead)
    → with_header nal sps pps read ≡ Ok slice → slice.nal ≡ nal
by_header nal sps pps (Ok header) slice is =
    let same : record { nal = nal; sps = sps; pps = pps; header = header } ≡ slice = cc in
    ap (λ (slice : SliceRead). slice.nal) (sym same)
by_header nal sps pps (Err fault) slice is = absurd cc

by_sps : (nal : List ℕ) (pps : Pps) (sps : Option Sps) (slice : SliceRead) → with_sps nal pps sps ≡ Ok slice → slice.nal ≡ nal
by_sps nal pps None slice is = absurd cc
by_sps nal pps (Some sps) slice is = by_header nal sps pps (header_at nal sps pps) slice is

by_pps : (tables : ParameterSets) (nal : List ℕ) (pps : Option Pps) (slice : SliceRead) → with_pps tables nal pps ≡ Ok slice → slice.nal ≡ nal
by_pps tables nal None slice is = absurd cc
by_pps tables nal (Some pps) slice is = by_sps nal pps (sps_under tables pps.seq_parameter_set_id) slice is

by_front : (tables : ParameterSets) (nal : List ℕ) (front : Result HeaderFront HeaderFault) (slice : SliceRead)
    → with_front tables nal front ≡ Ok slice → slice.nal ≡ nal
by_front tables nal (Ok front) slice is = by_pps tables nal (pps_under tables front.pic_parameter_set_id) slice is
by_front tables nal (Err fault) slice is = absurd cc

nal_of_slice : (tables : ParameterSets) (nal : List ℕ) (slice : SliceRead) → slice_at tables nal ≡ Ok slice → slice.nal ≡ nal
unfolding slice_at
nal_of_slice tables nal slice is = by_front tables nal (front_at nal) slice is

-- and so it does with its lists
by_lists : (slice : SliceRead) (lists : Result (List (Option ℕ) × List (Option ℕ)) ListFault) (given : ListedSlice)
    → with_lists slice lists ≡ Ok given → given.slice ≡ slice
by_lists slice (Ok lists) given is =
    let same : record { slice = slice; list_0 = lists.0; list_1 = lists.1 } ≡ given = cc in
    ap (λ (given : ListedSlice). given.slice) (sym same)
by_lists slice (Err fault) given is = absurd cc

module _ (frames : List Frame) (counts : Counts) (id : ℕ) where
  -- the bytes of the requests of slices are theirs
  bytes-requests_of : (slices : List ListedSlice) → bytes_of (requests_of frames counts id slices) ≡ map (λ listed. coded listed.slice.nal) slices
  bytes-requests_of [] = refl
  bytes-requests_of (last ∷ []) = refl
  bytes-requests_of (first ∷ second ∷ more) =
      ap (λ (bytes : List (List ℕ)). coded first.slice.nal ∷ bytes) (bytes-requests_of (second ∷ more))

-- what is made has requests with these bytes, if it has any
HasBytes : List (List ℕ) → Outcome → Type 0
HasBytes bytes (outcomes.Plan plan) = bytes_of plan.requests ≡ bytes
HasBytes bytes (outcomes.Fault fault) = Unit {0}
HasBytes bytes outcomes.Empty = Unit {0}

made_has : (bytes : List (List ℕ)) (after : FoldState) (outcome : Outcome) (made : FoldState × Outcome)
    → ◌≡◌ {A = Result (FoldState × Outcome) ValidityFault} (Ok (after, outcome)) (Ok made) → HasBytes bytes outcome → HasBytes bytes made.1
unfolding HasBytes
made_has bytes after outcome made is has =
    let same : (after, outcome) ≡ made = cc in subst (λ (made : FoldState × Outcome). HasBytes bytes made.1) same has

module _ (state : FoldState) (id : ℕ) where
  picture_has : (first : SliceRead) (slices : List SliceRead) (made : FoldState × Outcome) → picture_after state id first slices ≡ Ok made
      → HasBytes (map (λ slice. coded slice.nal) slices) made.1
  unfolding picture_after HasBytes
  picture_has first slices made is =
      let passed = then_ok (passes (first_shown (picture_rows state first.sps first.header))) _ made is in
      let counting = then_ok (counted (counts_of state.anchor first.sps first.header)) _ made passed.2 in
      let listing = then_ok (gathered (map (listed state.marks counting.0) slices)) _ made counting.2 in
      let marking = then_ok (marked (marks_after state.marks id first.sps first.header counting.0)) _ made listing.2 in
      let kept : map (λ (given : ListedSlice). coded given.slice.nal) listing.0 ≡ map (λ (slice : SliceRead). coded slice.nal) slices =
      kept_by_all (λ (slice : SliceRead). coded slice.nal) (λ (given : ListedSlice). coded given.slice.nal) (listed state.marks counting.0)
      (λ slice given gives. ap (λ (slice : SliceRead). coded slice.nal)
      (by_lists slice (lists_of state.marks slice.sps slice.header counting.0) given gives)) slices listing.0 listing.1 in
      made_has _ _ _ made marking.2 (bytes-requests_of state.marks.frames counting.0 id listing.0 ∙ kept)

  slices_have : (slices : List SliceRead) (made : FoldState × Outcome) → picture_of state id slices ≡ Ok made
      → HasBytes (map (λ slice. coded slice.nal) slices) made.1
  unfolding HasBytes
  slices_have [] made is = made_has [] state outcomes.Empty made is tt
  slices_have (first ∷ others) made is =
      let passed = then_ok (passes (first_shown (slice_rows first others))) (λ passed. picture_after state id first (first ∷ others)) made is in
      picture_has first (first ∷ others) made passed.2

  unit_has : (unit : List (List ℕ)) (made : FoldState × Outcome) → planned state id unit ≡ Ok made
      → HasBytes (map coded (filter is_slice unit)) made.1
  unit_has unit made is =
      let slices = filter is_slice unit in
      let read = then_ok (gathered (map (slice_at state.tables) slices)) (picture_of state id) made is in
      let kept : map (λ (slice : SliceRead). coded slice.nal) read.0 ≡ map coded slices =
      kept_by_all coded (λ (slice : SliceRead). coded slice.nal) (slice_at state.tables)
      (λ nal slice gives. ap coded (nal_of_slice state.tables nal slice gives)) slices read.0 read.1 in
      subst (λ (bytes : List (List ℕ)). HasBytes bytes made.1) kept (slices_have read.0 made read.2)

  answer_has : (unit : List (List ℕ)) (answer : Result (FoldState × Outcome) ValidityFault) → planned state id unit ≡ answer
      → HasBytes (map coded (filter is_slice unit)) (outcome_of state answer).1
  unfolding HasBytes
  answer_has unit (Ok made) is = unit_has unit made is
  answer_has unit (Err fault) is = tt

digest_of : (bytes : List (List ℕ)) (outcome : Outcome) (digest : List ℕ) → HasBytes bytes outcome → digest ≡ slices_digest bytes
    → IsDigestOf outcome digest
unfolding HasBytes
digest_of bytes (outcomes.Plan plan) digest has is = is ∙ ap slices_digest (sym has)
digest_of bytes (outcomes.Fault fault) digest has is = tt
digest_of bytes outcomes.Empty digest has is = tt

-- the digest of a unit's slices is that of its outcome
pub step_digest : (state : FoldState) (id : ℕ) (unit : List (List ℕ)) (digest : List ℕ) → digest ≡ unit_digest unit
    → IsDigestOf (fold_step state id unit).1 digest
unfolding fold_step
step_digest state id unit digest is =
    digest_of (map coded (filter is_slice unit)) _ digest
    (answer_has (with_sets state unit) id unit (planned (with_sets state unit) id unit) refl) is
