-- The first slice of a frame, and those after it.
use Rattle.std.proofs.Common.{◌≡◌, ℕ, ◌-◌, ◌≤◌, ◌<◌, Bool, true, false, not, List, [], ◌∷◌, ◌++◌, length, take, drop, refl, sym, ◌∙◌, ap, arith, slice_index_or, IsTrue, Result, Ok, Err, IfOk, append_assoc, subst}
use Rattle.std.proofs.lemmas.Bool.{and_parts, eqb-true}
use Rattle.std.proofs.lemmas.List.{take_all}
use Rattle.std.specs.List.{flat_map}
use Rattle.h264_controls.specs.declared.request.Request.{Request}
use Rattle.decode_jobs.specs.Inputs.{holds_but_last}
use Rattle.stand_in_device.specs.Decoding.{AllHave}

-- the slices after the first
abbrev pub later : List Request → List Request
later slices = take (length slices - 1) (drop 1 slices)

later_is : (slice : Request) (more : List Request) → later (slice ∷ more) ≡ more
later_is slice more =
    let one_less : length (slice ∷ more) - 1 ≡ length more = omega arith in
    ap (λ (n : ℕ). take n more) one_less ∙ take_all (length more) more (omega arith)

-- one slice, which is the last
pub record IsLast (time : ℕ) (slices : List Request) (slice : Request) : Type 0 where
  pub whole : slices ≡ slice ∷ []
  pub time_is : slice.timestamp ≡ time
  pub hold : slice.hold ≡ false

-- a slice, and more after it
pub record GoesOn (time : ℕ) (slices : List Request) (slice : Request) : Type 0 where
  pub whole : slices ≡ slice ∷ later slices
  pub time_is : slice.timestamp ≡ time
  pub hold : slice.hold ≡ true
  pub one : AllHave time (later slices)
  pub holds : IsTrue (holds_but_last (later slices))

-- the last one is the only one
pub last_is : (time : ℕ) (slices : List Request) (slice : Request) → 1 ≤ length slices → length slices < 2 → slice ≡ slice_index_or slices 0 slice → AllHave time slices → IsTrue (holds_but_last slices) → IsLast time slices slice
last_is time [] slice some few is one holds = absurd (omega (arith, some))
last_is time (first ∷ []) slice some few is one holds =
    record {
      whole = ap (λ (s : Request). s ∷ []) (sym is);
      time_is = ap (λ (s : Request). s.timestamp) is ∙ eqb-true first.timestamp time (and_parts _ _ one).0;
      hold = ap (λ (s : Request). s.hold) is ∙ not_true first.hold holds;
    }
  where
    not_true : (b : Bool) → not b ≡ true → b ≡ false
    not_true false is_not = refl
    not_true true is_not = cc
last_is time (first ∷ second ∷ more) slice some few is one holds = absurd (omega (arith, few))

-- one of more is held, and those after it are as they should be
pub more_are : (time : ℕ) (slices : List Request) (slice : Request) → 2 ≤ length slices → slice ≡ slice_index_or slices 0 slice → AllHave time slices → IsTrue (holds_but_last slices) → GoesOn time slices slice
more_are time [] slice some is one holds = absurd (omega (arith, some))
more_are time (first ∷ []) slice some is one holds = absurd (omega (arith, some))
more_are time (first ∷ second ∷ more) slice some is one holds =
    let rest = later_is first (second ∷ more) in
    let have = and_parts _ _ one in
    let hold = and_parts _ _ holds in
    record {
      whole = ap (λ (s : Request). s ∷ second ∷ more) (sym is) ∙ ap (λ (r : List Request). slice ∷ r) (sym rest);
      time_is = ap (λ (s : Request). s.timestamp) is ∙ eqb-true first.timestamp time have.0;
      hold = ap (λ (s : Request). s.hold) is ∙ hold.0;
      one = subst (λ (r : List Request). AllHave time r) (sym rest) have.1;
      holds = subst (λ (r : List Request). IsTrue (holds_but_last r)) (sym rest) hold.1;
    }

-- what every answer has that has another thing
pub ok_map : {A E : Type 0} (r : Result A E) (P Q : A → Type 0) → IfOk r P → ((x : A) → P x → Q x) → IfOk r Q
ok_map (Ok x) P Q is law = law x is
ok_map (Err e) P Q is law = tt

-- the records of slices are that of the first and those of the later ones
pub records : (f : Request → List ℕ) (slices : List Request) (slice : Request) (m : List ℕ) → slices ≡ slice ∷ later slices → (m ++ f slice) ++ flat_map f (later slices) ≡ m ++ flat_map f slices
records f slices slice m whole =
    append_assoc m (f slice) (flat_map f (later slices)) ∙ ap (λ (s : List Request). m ++ flat_map f s) (sym whole)
