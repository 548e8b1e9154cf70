-- Jobs that are out: by their numbers, what is answered where a picture of one lands, and to which pictures none refers.
use Rattle.std.proofs.Common.{◌≡◌, ℕ, zero, suc, ◌<◌, ◌≤◌, ◌==◌, Bool, true, List, [], ◌∷◌, length, get_or, map, Option, None, Some, option_map, refl, ap, sym, ◌∙◌, inl, inr, arith, subst}
use Rattle.std.specs.Prelude.{All, Contains, position, slice_get, slice_index_or, option_and_then}
use Rattle.std.specs.List.{position_or_len}
use Rattle.std.proofs.lemmas.Bool.{cases_lt, eq-eqb, eqb-true, lt-ltb}
use Rattle.std.proofs.lemmas.List.{length-map}
use Rattle.std.proofs.lemmas.List.Elements.{All-map, All-contains, All-weaker}
use Rattle.std.proofs.lemmas.List.Quantifiers.{position-Some}
use Rattle.std.proofs.lemmas.List.Sums.{fails_before_first}
use Rattle.std.proofs.lemmas.Option.{same_Some}
use Rattle.held_pictures.proofs.Members.{All-from_contains, among_map}
use Rattle.decode_jobs.specs.Jobs.{JobValue}
use Rattle.picture_store.specs.declared.job_out.JobOut.{JobOut}
use Rattle.picture_store.specs.Jobs.{IsSameJob, input_of, IsOut, LandsThere, AnswersLand, AnswersLandOf}
use Rattle.picture_store.specs.Stored.{Trees, jobs_for}
use Rattle.picture_store.specs.Stores.{OutValue, StoreValue}
use Rattle.picture_store.proofs.Landed.{got_at}
use Rattle.picture_store.proofs.Viewed.{seen}
use Rattle.picture_store.specs.declared.answers.Landing.{Landing}
use Rattle.picture_store.specs.declared.answers.Landing.TheVariants.{Taken, Stale, Foreign}
use Rattle.picture_store.specs.Unreferred.{AreOthers, IsFree}
use Rattle.picture_store.specs.Released.{IsUnreferred}

-- the first that passes among what is made of a list
pub position_map : {X Y : Type 0} (test : Y → Bool) (f : X → Y) (xs : List X) → position test (map f xs) ≡ position (λ x. test (f x)) xs
position_map {X} {Y} test f xs = rw (first xs, length-map xs f) refl
  where
    first : (ys : List X) → position_or_len test (map f ys) ≡ position_or_len (λ x. test (f x)) ys
    first [] = refl
    first (y ∷ ys) = rw (first ys) refl

-- where none is the first that passes, none passes
pub none_passes : {X : Type 0} (test : X → Bool) (xs : List X) → position test xs ≡ None → (x : X) → Contains xs x → test x ≡ true → ⊥
none_passes test xs none x among is =
    let first : ℕ = position_or_len test xs in
    let passes : test (get_or xs among.0 x) ≡ true = ap test among.2 ∙ is in
    let low : first ≤ among.0 =
    elim (cases_lt among.0 first) [
      | inl high ↦ absurd (let fails = sym passes ∙ fails_before_first test xs among.0 x high in cc)
      | inr low ↦ low
    ] in
    let within : first < length xs = omega (arith, low, among.1) in
    let there : position test xs ≡ Some first = rw (lt-ltb first (length xs) within) refl in
    let no = sym none ∙ there in cc

-- what the first job of a number was given
pub input_at : {P : Type 0} (keys : Trees) (out : List (JobOut P)) (number at : ℕ) (job : JobOut P) → at < length out → job ≡ slice_index_or out at job
    → position (λ (j : JobOut P). j.number == number) out ≡ Some at → input_of (jobs_for keys out) number ≡ Some job.input
input_at {P = P} keys out number at job within is first =
    ap (λ (place : Option ℕ). option_map (λ (j : OutValue P). j.input) (option_and_then (slice_get (jobs_for keys out)) place))
    (position_map (λ (j : OutValue P). j.number == number) (seen keys) out ∙ first)
    ∙ ap (option_map (λ (j : OutValue P). j.input)) (got_at (seen keys) out at job within is)

-- the same by what stands at its place
pub input_there : {P : Type 0} (keys : Trees) (out : List (JobOut P)) (number at : ℕ) (other : OutValue P)
    → slice_get (jobs_for keys out) at ≡ Some other → position (λ (j : JobOut P). j.number == number) out ≡ Some at
    → input_of (jobs_for keys out) number ≡ Some other.input
input_there {P = P} keys out number at other there first =
    ap (λ (place : Option ℕ). option_map (λ (j : OutValue P). j.input) (option_and_then (slice_get (jobs_for keys out)) place))
    (position_map (λ (j : OutValue P). j.number == number) (seen keys) out ∙ first)
    ∙ ap (option_map (λ (j : OutValue P). j.input)) there

-- and where there is none
pub input_none : {P : Type 0} (keys : Trees) (out : List (JobOut P)) (number : ℕ) → position (λ (j : JobOut P). j.number == number) out ≡ None
    → input_of (jobs_for keys out) number ≡ None
input_none {P = P} keys out number none =
    ap (λ (place : Option ℕ). option_map (λ (j : OutValue P). j.input) (option_and_then (slice_get (jobs_for keys out)) place))
    (position_map (λ (j : OutValue P). j.number == number) (seen keys) out ∙ none)

pub none_numbered : {P : Type 0} (keys : Trees) (out : List (JobOut P)) (number : ℕ) → position (λ (j : JobOut P). j.number == number) out ≡ None
    → All (λ (other : OutValue P). other.number ≡ number → ⊥) (jobs_for keys out)
none_numbered {P = P} keys out number none =
    All-map (λ (other : OutValue P). other.number ≡ number → ⊥) (seen keys) out
    (All-from_contains {P = λ (job : JobOut P). job.number ≡ number → ⊥} out (λ job among is.
    none_passes (λ (j : JobOut P). j.number == number) out none job among (eq-eqb job.number number is)))

-- the first job of a number is out
pub numbered_there : {P : Type 0} (keys : Trees) (out : List (JobOut P)) (number at : ℕ) → at < length out
    → position (λ (j : JobOut P). j.number == number) out ≡ Some at
    → (other : OutValue P) × (slice_get (jobs_for keys out) at ≡ Some other) × (other.number ≡ number)
numbered_there {P = P} keys out number at within first =
    there out at within (λ d. eqb-true (get_or out at d).number number (position-Some (λ (j : JobOut P). j.number == number) out at d first).1)
  where
    there : (jobs : List (JobOut P)) (place : ℕ) → place < length jobs → ((d : JobOut P) → (get_or jobs place d).number ≡ number)
        → (other : OutValue P) × (slice_get (jobs_for keys jobs) place ≡ Some other) × (other.number ≡ number)
    there [] place within is = absurd (omega (arith, within))
    there (job ∷ jobs) zero within is = (seen keys job, refl, is job)
    there (job ∷ jobs) (suc place) within is = there jobs place (omega (arith, within)) is

-- and so is one of a number and an input
pub job_there : {P : Type 0} (keys : Trees) (out : List (JobOut P)) (at : ℕ) (job : JobValue P) → at < length out
    → ((d : JobOut P) → (slice_index_or out at d).number ≡ job.number) → ((d : JobOut P) → (slice_index_or out at d).input ≡ job.input)
    → (other : OutValue P) × (slice_get (jobs_for keys out) at ≡ Some other) × IsSameJob job other
job_there keys [] at job within number input = absurd (omega (arith, within))
job_there keys (first ∷ out) zero job within number input = (seen keys first, refl, (number first, input first))
job_there keys (first ∷ out) (suc at) job within number input = job_there keys out at job (omega (arith, within)) number input

module _ {P : Type 0} (old : StoreValue P) (at : ℕ) (picture : P) where
  module _ (job : JobValue P) (other : OutValue P) (there : slice_get old.jobs_out at ≡ Some other) (is : IsSameJob job other) where
    out_at : (out : OutValue P) → slice_get old.jobs_out at ≡ Some out → IsOut old job at out
    out_at out stands = record { stands = stands; is = subst (IsSameJob job) (same_Some other out (sym there ∙ stands)) is }

    -- that of a job
    pub job_lands : (landing : Landing) (new : StoreValue P) → LandsThere old at picture landing new
        → AnswersLand old job picture landing new
    job_lands Foreign new (out, stands, lands) = absurd lands
    job_lands Stale new (out, stands, lands) = (at, out, out_at out stands, lands)
    job_lands Taken new (out, stands, lands) = (at, out, out_at out stands, lands)

  module _ (number : ℕ) (other : OutValue P) (there : slice_get old.jobs_out at ≡ Some other) (is : other.number ≡ number) where
    number_of : (out : OutValue P) → slice_get old.jobs_out at ≡ Some out → out.number ≡ number
    number_of out stands = subst (λ (job : OutValue P). job.number ≡ number) (same_Some other out (sym there ∙ stands)) is

    -- that of the job of a number
    pub number_lands : (landing : Landing) (new : StoreValue P) → LandsThere old at picture landing new
        → AnswersLandOf old number picture landing new
    number_lands Foreign new (out, stands, lands) = absurd lands
    number_lands Stale new (out, stands, lands) = (at, out, stands, number_of out stands, lands)
    number_lands Taken new (out, stands, lands) = (at, out, stands, number_of out stands, lands)

module _ {P : Type 0} (keys : Trees) (out : List (JobOut P)) where
  pub free_seen : (picture : P) → IsFree out picture → IsUnreferred (jobs_for keys out) picture
  free_seen picture free = All-map (λ (job : OutValue P). AreOthers job.input.references picture) (seen keys) out free

  pub seen_free : (picture : P) → IsUnreferred (jobs_for keys out) picture → IsFree out picture
  seen_free picture free =
      All-from_contains {P = λ (job : JobOut P). AreOthers job.input.references picture} out (λ job among.
      All-contains (λ (job : OutValue P). AreOthers job.input.references picture) (jobs_for keys out) (seen keys job) free
      (among_map (seen keys) out job among))

  -- where a job refers to each picture, one that is seen does
  pub none_free : (pictures : List P) → All (λ picture. IsFree out picture → ⊥) pictures
      → All (λ picture. IsUnreferred (jobs_for keys out) picture → ⊥) pictures
  none_free pictures none =
      All-weaker (λ picture. IsFree out picture → ⊥) (λ picture. IsUnreferred (jobs_for keys out) picture → ⊥)
      (λ picture not free. not (seen_free picture free)) pictures none
