-- What a sweep leaves of the keys that are stored.
use Rattle.std.proofs.Common.{◌≡◌, refl, ap, subst, ◌∙◌, ℕ, ◌+◌, ◌<◌, Bool, true, false, ◌==◌, ◌⊎◌, List, [], ◌∷◌, Contains, Option, ◌↔◌, Result, Ok, Err, OnOk, OnErr, Some, inl, inr, if◌then◌else◌, arith}
use Rattle.std.proofs.lemmas.Bool.{cases_lt, eqb-true}
use Rattle.std.proofs.lemmas.List.Sums.{sum_by-cons}
use Rattle.std.specs.declared.alloc.AllocError.{AllocError}
use Rattle.decode_jobs.specs.KeyMaps.{tree_at}
use Rattle.decode_jobs.specs.Sweeping.{IsSwept, IsNeeded}
use Rattle.decode_jobs.specs.Keys.{Key}
use Rattle.held_pictures.specs.Counting.{once_if, times, times_in}
use Rattle.held_pictures.proofs.Counts.{counted_in, some_counted}
use Rattle.held_pictures.proofs.Members.{here, there}
use Rattle.picture_store.specs.declared.job_out.JobOut.{JobOut}
use Rattle.picture_store.specs.Stored.{AreSwept, IsStored, Trees}

pub root_stays : (r : Result (Unit {0}) AllocError) (old new : Trees) (roots : List ℕ) → OnOk r (IsSwept old roots new)
    → OnErr r (new ≡ old) → (number : ℕ) (key : Key) → Contains roots number → tree_at old number ≡ Some key
    → tree_at new number ≡ Some key
root_stays (Ok x) old new roots ok err number key among there =
    let needed : IsNeeded old roots key =
    record { root = number; among = among; top = key; rooted = there; within = inl refl } in
    ok.kept number key there needed
root_stays (Err e) old new roots ok err number key among there = ap (λ (keys : Trees). tree_at keys number) err ∙ there

once_at : (b : Bool) (number key : ℕ) → b ≡ (key == number) → (◌≡◌ {A = ℕ} (if b then 1 else 0) 0) ⊎ (key ≡ number)
once_at true number key is = inr (eqb-true key number (sym' is))
  where
    sym' : true ≡ (key == number) → (key == number) ≡ true
    sym' same = cc
once_at false number key is = inl refl

-- what is counted among keys stands there
some_in : (number : ℕ) (keys : List ℕ) → 0 < times_in number keys → Contains keys number
some_in number [] is = absurd (omega (arith, is))
some_in number (key ∷ keys) is =
    elim (once_at (key == number) number key refl) [
      | inl none ↦
          there key number keys (some_in number keys (omega (arith, is, sum_by-cons (once_if number) key keys, none)))
      | inr same ↦ subst (λ k. Contains (key ∷ keys) k) same (here key keys)
    ]

-- a key that was added is that of a unit
pub only_added : (old new : List ℕ) (numbers : List (Option ℕ)) (number : ℕ)
    → times_in number new ≡ times_in number old + times number numbers → Contains new number
    → Contains old number ⊎ Contains numbers (Some number)
only_added old new numbers number counted among =
    let some : 0 < times_in number new = counted_in number new among in
    elim (cases_lt 0 (times number numbers)) [
      | inl unit ↦ inr (some_counted number numbers unit)
      | inr none ↦ inl (some_in number old (omega (arith, some, counted, none)))
    ]

pub swept_all : {P : Type 0} (r : Result (Unit {0}) AllocError) (numbers : List (Option ℕ)) (marked : List ℕ) (cached : List (ℕ × P))
    (out : List (JobOut P)) (old new : Trees) (roots : List ℕ)
    → ((number : ℕ) → Contains roots number ↔ (Contains marked number ⊎ IsStored numbers cached out number))
    → OnOk r (IsSwept old roots new) → OnOk r (AreSwept numbers marked cached out old new)
swept_all (Ok x) numbers marked cached out old new roots are swept = record { roots = roots; are = are; swept = swept }
swept_all (Err e) numbers marked cached out old new roots are swept = swept
