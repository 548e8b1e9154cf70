-- The keys of a bounded list stay distinct.
use Rattle.std.proofs.Common.{◌≡◌, ℕ, zero, suc, ◌≤◌, Bool, true, false, List, [], ◌∷◌, take, length, refl, subst, arith}
use Rattle.std.specs.List.{IsDistinct, AllByRecursion}
use Rattle.std.specs.Map.{keys_of, remove_entry}
use Rattle.held_pictures.specs.Bounded.{IsStructural}

module _ {K P : Type 0} where
  -- what holds of each key still does in a prefix of the list
  All-keys_take : (Q : K → Type 0) (n : ℕ) (es : List (K × P)) → AllByRecursion Q (keys_of es) → AllByRecursion Q (keys_of (take n es))
  All-keys_take Q zero es all = tt
  All-keys_take Q (suc n) [] all = tt
  All-keys_take Q (suc n) (e ∷ es) all = (all.0, All-keys_take Q n es all.1)

  -- and without an entry
  All-keys_remove_entry : (Q : K → Type 0) (test : K → Bool) (es : List (K × P)) → AllByRecursion Q (keys_of es) → AllByRecursion Q (keys_of (remove_entry test es))
  All-keys_remove_entry Q test [] all = tt
  All-keys_remove_entry Q test (e ∷ es) all = (elim (test e.0) as (λ y. test e.0 ≡ y → AllByRecursion Q (keys_of (remove_entry test (e ∷ es)))) [
    | true ↦ λ t. rw t all.1
    | false ↦ λ t. rw t (all.0, All-keys_remove_entry Q test es all.1)
  ]) refl

  pub IsDistinct-keys_take : (eq : K → K → Bool) (n : ℕ) (es : List (K × P)) → IsDistinct eq (keys_of es) → IsDistinct eq (keys_of (take n es))
  unfolding IsDistinct
  IsDistinct-keys_take eq zero es once = tt
  IsDistinct-keys_take eq (suc n) [] once = tt
  IsDistinct-keys_take eq (suc n) (e ∷ es) once = (All-keys_take (λ y. eq e.0 y ≡ false) n es once.0, IsDistinct-keys_take eq n es once.1)

  pub IsDistinct-keys_remove_entry : (eq : K → K → Bool) (test : K → Bool) (es : List (K × P)) → IsDistinct eq (keys_of es) → IsDistinct eq (keys_of (remove_entry test es))
  unfolding IsDistinct
  IsDistinct-keys_remove_entry eq test [] once = tt
  IsDistinct-keys_remove_entry eq test (e ∷ es) once = (elim (test e.0) as (λ y. test e.0 ≡ y → IsDistinct eq (keys_of (remove_entry test (e ∷ es)))) [
    | true ↦ λ t. rw t once.1
    | false ↦ λ t. rw t (All-keys_remove_entry (λ y. eq e.0 y ≡ false) test es once.0, IsDistinct-keys_remove_entry eq test es once.1)
  ]) refl

  -- no key that is left equals the one whose entry went
  pub apart_from_removed : (eq : K → K → Bool) → IsStructural eq → (k : K) (es : List (K × P)) → IsDistinct eq (keys_of es) → AllByRecursion (λ y. eq k y ≡ false) (keys_of (remove_entry (eq k) es))
  unfolding IsDistinct
  apart_from_removed eq one k [] once = tt
  apart_from_removed eq one k (e ∷ es) once = (elim (eq k e.0) as (λ y. eq k e.0 ≡ y → AllByRecursion (λ y. eq k y ≡ false) (keys_of (remove_entry (eq k) (e ∷ es)))) [
    | true ↦ λ t. let same : e.0 ≡ k = cc (one k e.0 t) in rw t (subst (λ j. AllByRecursion (λ y. eq j y ≡ false) (keys_of es)) same once.0)
    | false ↦ λ t. rw t (t, apart_from_removed eq one k es once.1)
  ]) refl

  pub length-remove_entry_le : (test : K → Bool) (es : List (K × P)) → length (remove_entry test es) ≤ length es
  length-remove_entry_le test [] = omega arith
  length-remove_entry_le test (e ∷ es) = (elim (test e.0) as (λ y. test e.0 ≡ y → length (remove_entry test (e ∷ es)) ≤ length (e ∷ es)) [
    | true ↦ λ t. rw t (omega arith)
    | false ↦ λ t. rw t (omega (arith, length-remove_entry_le test es))
  ]) refl
