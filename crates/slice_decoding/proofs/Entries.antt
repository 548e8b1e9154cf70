-- Entries of a list: what cutting leaves.
use Rattle.std.proofs.Common.{◌≡◌, ℕ, zero, suc, ◌+◌, ◌≤◌, ⊎_elim, false, nat_eq, List, [], ◌∷◌, ◌++◌, length, slice_get, count_by, Some, None, refl, ap, ◌∙◌, arith, add-one}
use Rattle.std.specs.List.{AllByRecursion, IsDistinct}
use Rattle.std.proofs.lemmas.Bool.{cases_Bool, eqb-true}
use Rattle.slice_decoding.specs.InitialLists.{cut}
use Rattle.slice_decoding.specs.Modification.{is_entry_of}
use Rattle.slice_decoding.proofs.Puts.{count_by-pass, count_by-fail}
use Rattle.slice_decoding.proofs.RefListsPlaces.{eq_flips}

pub length-cut : (active : ℕ) (places : List ℕ) → length (cut active places) ≡ active
length-cut zero places = refl
length-cut (suc active) [] = ap suc (length-cut active [])
length-cut (suc active) (place ∷ places) = ap suc (length-cut active places)

cut-suc : (active : ℕ) (places : List ℕ) → cut (suc active) places ≡ cut active places ++ slice_get places active ∷ []
cut-suc zero [] = refl
cut-suc zero (place ∷ places) = refl
cut-suc (suc active) [] = ap (λ entries. None ∷ entries) (cut-suc active [])
cut-suc (suc active) (place ∷ places) = ap (λ entries. Some place ∷ entries) (cut-suc active places)

-- one entry more
pub cut_more : (active : ℕ) (places : List ℕ) → cut (active + 1) places ≡ cut active places ++ slice_get places active ∷ []
cut_more active places = rw add-one (cut-suc active places)

-- a frame that isn't among the places has no entry, and one that is has one at most
count_by-cut_absent : (place : ℕ) (active : ℕ) (places : List ℕ) → AllByRecursion (λ other. nat_eq place other ≡ false) places
    → count_by (is_entry_of place) (cut active places) ≡ 0
count_by-cut_absent place zero places absent = refl
count_by-cut_absent place (suc active) [] absent = count_by-fail (is_entry_of place) None (cut active []) refl ∙ count_by-cut_absent place active [] absent
count_by-cut_absent place (suc active) (first ∷ places) absent =
    let differs : nat_eq first place ≡ false = eq_flips first place ∙ absent.0 in
    count_by-fail (is_entry_of place) (Some first) (cut active places) differs ∙ count_by-cut_absent place active places absent.1

pub count_by-cut : (place : ℕ) (active : ℕ) (places : List ℕ) → IsDistinct nat_eq places → count_by (is_entry_of place) (cut active places) ≤ 1
unfolding IsDistinct
count_by-cut place zero places distinct = omega arith
count_by-cut place (suc active) [] distinct = omega (arith, count_by-cut_absent place (suc active) [] tt)
count_by-cut place (suc active) (first ∷ places) distinct = ⊎_elim
    (λ same.
    let is : first ≡ place = eqb-true first place same in
    let none = count_by-cut_absent place active places (rw is at distinct.0) in
    omega (arith, count_by-pass (is_entry_of place) (Some first) (cut active places) same, none))
    (λ differs.
    let rest = count_by-cut place active places distinct.1 in
    omega (arith, count_by-fail (is_entry_of place) (Some first) (cut active places) differs, rest))
    (cases_Bool (nat_eq first place))
