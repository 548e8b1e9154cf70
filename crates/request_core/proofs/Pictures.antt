-- What a picture leads to where nothing stands in its way.
use Rattle.std.proofs.Common.{◌≡◌, ℕ, List, map, Ok, ap, ◌∙◌}
use Rattle.std.specs.Prelude.{Result}
use Rattle.h264_types.specs.Chains.{◌>>=◌}
use Rattle.h264_types.specs.declared.pictures.counts.Counts.{Counts}
use Rattle.slice_decoding.specs.Counting.{counts_of}
use Rattle.h264_types.specs.MarkedFrames.{Marked}
use Rattle.slice_decoding.specs.MarksAfter.{marks_after}
use Rattle.unit_outcomes.specs.declared.validity_fault.ValidityFault.{ValidityFault}
use Rattle.unit_outcomes.specs.declared.outcome.Outcome.TheVariants.{Plan}
use Rattle.slice_reading.specs.declared.unplanned.Unplanned.{Unplanned}
use Rattle.slice_reading.specs.declared.unplanned.Unplanned.TheVariants.{Fault, Memory}
use Rattle.slice_reading.specs.Answers.{Ends}
use Rattle.request_core.specs.States.{FoldState}
use Rattle.slice_reading.specs.Numbers.{gathered}
use Rattle.slice_reading.specs.Slices.{SliceRead}
use Rattle.slice_reading.specs.Faults.{first_shown}
use Rattle.request_core.specs.Faults.{picture_rows}
use Rattle.request_core.specs.Requests.{ListedSlice}
use Rattle.request_core.specs.Fold.{passes, counted, listed, marked, state_after, plan_of, picture_after}

bind-ok : {A B E : Type 0} {read : Result A E} {x : A} (f : A → Result B E) → read ≡ Ok x → (read >>= f) ≡ f x
bind-ok f is = ap (λ read. read >>= f) is

pub picture-is : (state : FoldState) (id : ℕ) (first : SliceRead) (slices : List SliceRead) (counts : Counts) (with_lists : List ListedSlice) (marks : Marked)
    → passes (first_shown (picture_rows state first.sps first.header)) ≡ Ok record {}
    → counted (counts_of state.anchor first.sps first.header) ≡ Ok counts
    → gathered (map (listed state.marks counts) slices) ≡ Ok with_lists
    → marked (marks_after state.marks id first.sps first.header counts) ≡ Ok marks
    → picture_after state id first slices ≡ Ok (state_after state first counts marks, Plan (plan_of state id first counts with_lists))
unfolding picture_after
picture-is state id first slices counts with_lists marks followed counts_are lists_are marks_are =
    bind-ok _ followed ∙ (bind-ok _ counts_are ∙ (bind-ok _ lists_are ∙ bind-ok _ marks_are))

-- what ends one part ends the whole
stopped : {Y Z : Type 0} (end : Unplanned) (says : Result Y ValidityFault) (f : Y → Result Z ValidityFault) → Ends end says → Ends end (says >>= f)
stopped (Fault fault) says f is = ap (λ answer. answer >>= f) is
stopped Memory says f is = record {}

-- and so does what ends the rest after a part that is done
passed : {Y Z : Type 0} (end : Unplanned) (says : Result Y ValidityFault) (x : Y) (f : Y → Result Z ValidityFault)
    → says ≡ Ok x → Ends end (f x) → Ends end (says >>= f)
passed (Fault fault) says x f is stops = ap (λ answer. answer >>= f) is ∙ stops
passed Memory says x f is stops = record {}

module _ (state : FoldState) (id : ℕ) (first : SliceRead) (slices : List SliceRead) (end : Unplanned) where
  pub ends-followed : Ends end (passes (first_shown (picture_rows state first.sps first.header)))
      → Ends end (picture_after state id first slices)
  unfolding picture_after
  ends-followed is = stopped end _ _ is

  pub ends-counted : passes (first_shown (picture_rows state first.sps first.header)) ≡ Ok record {}
      → Ends end (counted (counts_of state.anchor first.sps first.header))
      → Ends end (picture_after state id first slices)
  unfolding picture_after
  ends-counted followed is = passed end _ _ _ followed (stopped end _ _ is)

  pub ends-listed : (counts : Counts) → passes (first_shown (picture_rows state first.sps first.header)) ≡ Ok record {}
      → counted (counts_of state.anchor first.sps first.header) ≡ Ok counts
      → Ends end (gathered (map (listed state.marks counts) slices))
      → Ends end (picture_after state id first slices)
  unfolding picture_after
  ends-listed counts followed counts_are is = passed end _ _ _ followed (passed end _ _ _ counts_are (stopped end _ _ is))

  pub ends-marked : (counts : Counts) (with_lists : List ListedSlice)
      → passes (first_shown (picture_rows state first.sps first.header)) ≡ Ok record {}
      → counted (counts_of state.anchor first.sps first.header) ≡ Ok counts
      → gathered (map (listed state.marks counts) slices) ≡ Ok with_lists
      → Ends end (marked (marks_after state.marks id first.sps first.header counts))
      → Ends end (picture_after state id first slices)
  unfolding picture_after
  ends-marked counts with_lists followed counts_are lists_are is =
      passed end _ _ _ followed (passed end _ _ _ counts_are (passed end _ _ _ lists_are (stopped end _ _ is)))
