-- What becomes of a cache's keys and pairs where a pair is put or taken.
use Rattle.std.proofs.Common.{◌≡◌, refl, ap, sym, subst, ◌∙◌, ℕ, Bool, true, false, cond, eqb, List, [], ◌∷◌, take, Option, None, Some, inl, inr, ◌⊎◌}
use Rattle.std.specs.Prelude.{Contains}
use Rattle.std.specs.List.{IsDistinct, AllByRecursion}
use Rattle.std.specs.Map.{keys_of, lookup, remove_entry}
use Rattle.std.proofs.lemmas.Bool.{eqb-true, eqb-false}
use Rattle.std.proofs.lemmas.List.{take-map}
use Rattle.std.proofs.lemmas.Map.Views.{exact_unsigned_eq, Contains-from_lookup}
use Rattle.held_pictures.specs.Left.{IsLeft, IsPut}
use Rattle.held_pictures.proofs.Members.{here, there, first_or_among, among_map, among_take}

-- where no key is the one that goes, all are left
all_stay : (key : ℕ) (numbers : List ℕ) → AllByRecursion (λ n. eqb key n ≡ false) numbers
    → IsLeft (λ n. n ≡ key) numbers numbers
all_stay key [] apart = refl
all_stay key (n ∷ numbers) apart =
    inr (λ same. eqb-false key n apart.0 (sym same), (numbers, refl, all_stay key numbers apart.1))

other_not : (number key other : ℕ) (b : Bool) → eqb number other ≡ b → (number ≡ key → ⊥) → key ≡ other → b ≡ false
other_not number key other true is apart same = absurd (apart (eqb-true number other is ∙ sym same))
other_not number key other false is apart same = refl

module _ {X : Type 0} where
  left_one : (key : ℕ) (e : ℕ × X) (es : List (ℕ × X)) (b : Bool) → eqb key e.0 ≡ b
      → AllByRecursion (λ n. eqb e.0 n ≡ false) (keys_of es)
      → IsLeft (λ n. n ≡ key) (keys_of es) (keys_of (remove_entry (eqb key) es))
      → IsLeft (λ n. n ≡ key) (keys_of (e ∷ es)) (keys_of (cond b es (e ∷ remove_entry (eqb key) es)))
  left_one key e es true is apart rest =
      let same : key ≡ e.0 = eqb-true key e.0 is in
      inl (
        sym same,
        all_stay key (keys_of es)
            (subst (λ n. AllByRecursion (λ m. eqb n m ≡ false) (keys_of es)) (sym same) apart),
      )
  left_one key e es false is apart rest =
      inr (λ same. eqb-false key e.0 is (sym same), (keys_of (remove_entry (eqb key) es), refl, rest))

  -- without the pair of a key its other keys are left
  pub left_of_remove : (key : ℕ) (es : List (ℕ × X)) → IsDistinct eqb (keys_of es)
      → IsLeft (λ n. n ≡ key) (keys_of es) (keys_of (remove_entry (eqb key) es))
  unfolding IsDistinct
  left_of_remove key [] once = refl
  left_of_remove key (e ∷ es) once =
      left_one key e es (eqb key e.0) refl once.0 (left_of_remove key es once.1)

  among_cond : (b : Bool) (e : ℕ × X) (es rest : List (ℕ × X)) (pair : ℕ × X)
      → (Contains rest pair → Contains es pair) → Contains (cond b es (e ∷ rest)) pair → Contains (e ∷ es) pair
  among_cond true e es rest pair from is = there e pair es is
  among_cond false e es rest pair from is =
      elim (first_or_among e pair rest is) [
        | inl same ↦ subst (λ p. Contains (e ∷ es) p) same (here e es)
        | inr later ↦ there e pair es (from later)
      ]

  -- what stands after a pair went stood before
  pub among_removed : (key : ℕ) (es : List (ℕ × X)) (pair : ℕ × X) → Contains (remove_entry (eqb key) es) pair
      → Contains es pair
  among_removed key [] pair is = is
  among_removed key (e ∷ es) pair is =
      among_cond (eqb key e.0) e es (remove_entry (eqb key) es) pair (among_removed key es pair) is

  -- what stands after a put stood before, or it is what was put
  pub among_put : (capacity key : ℕ) (x : X) (es : List (ℕ × X)) (number : ℕ) (other : X)
      → Contains (take capacity ((key, x) ∷ remove_entry (eqb key) es)) (number, other)
      → Contains es (number, other) ⊎ ((number ≡ key) × (other ≡ x))
  among_put capacity key x es number other is =
      elim (first_or_among (key, x) (number, other) (remove_entry (eqb key) es)
      (among_take capacity ((key, x) ∷ remove_entry (eqb key) es) (number, other) is)) [
        | inl same ↦ inr (sym (ap (λ p. p.0) same), sym (ap (λ p. p.1) same))
        | inr later ↦ inl (among_removed key es (number, other) later)
      ]

  -- a pair that is put puts its key
  pub put_keys : (capacity key : ℕ) (x : X) (es : List (ℕ × X)) → IsDistinct eqb (keys_of es)
      → IsPut capacity key (keys_of es) (keys_of (take capacity ((key, x) ∷ remove_entry (eqb key) es)))
  put_keys capacity key x es once = (
    keys_of (remove_entry (eqb key) es),
    left_of_remove key es once,
    sym (take-map (λ p. p.0) capacity ((key, x) ∷ remove_entry (eqb key) es)),
  )

  others_by : (key number : ℕ) (e : ℕ × X) (es : List (ℕ × X)) (b : Bool) → eqb key e.0 ≡ b → (number ≡ key → ⊥)
      → lookup (eqb number) (remove_entry (eqb key) es) ≡ lookup (eqb number) es
      → lookup (eqb number) (cond b es (e ∷ remove_entry (eqb key) es)) ≡ lookup (eqb number) (e ∷ es)
  others_by key number e es true is apart rest =
      let not : eqb number e.0 ≡ false = other_not number key e.0 (eqb number e.0) refl apart (eqb-true key e.0 is) in
      ap (λ (b : Bool). cond b (Some e.1) (lookup (eqb number) es)) (sym not)
  others_by key number e es false is apart rest = ap (cond (eqb number e.0) (Some e.1)) rest

  -- what is found under the other keys stays
  pub others_found : (key number : ℕ) (es : List (ℕ × X)) → (number ≡ key → ⊥)
      → lookup (eqb number) (remove_entry (eqb key) es) ≡ lookup (eqb number) es
  others_found key number [] apart = refl
  others_found key number (e ∷ es) apart =
      others_by key number e es (eqb key e.0) refl apart (others_found key number es apart)

  not_found : (found : Option X) → ((x : X) → found ≡ Some x → ⊥) → found ≡ None
  not_found None none = refl
  not_found (Some x) none = absurd (none x refl)

  -- a key that isn't there is found nowhere
  pub none_found : (number : ℕ) (es : List (ℕ × X)) → (Contains (keys_of es) number → ⊥) → lookup (eqb number) es ≡ None
  none_found number es not =
      not_found (lookup (eqb number) es)
      (λ x is. not (among_map (λ (pair : ℕ × X). pair.0) es (number, x) (Contains-from_lookup exact_unsigned_eq number x es is)))
