-- Which states are stored after a state is put, a range is cut and places move.
use Rattle.std.proofs.Common.{◌≡◌, ℕ, ◌<◌, true, false, cond, List, [], ◌∷◌, Contains, map, Option, Some, None, refl, ap, sym, ◌∙◌, arith, eqb, inl, inr}
use Rattle.std.specs.Map.{keys_of, lookup}
use Rattle.std.specs.Ordering.{nat_cmp}
use Rattle.std.specs.BTreeMap.{insert_entry}
use Rattle.std.proofs.lemmas.Bool.{cases_order, cases_eq, lt-ltb, le-ltb, eq-eqb, ne_eqb, eqb-true}
use Rattle.std.proofs.lemmas.Map.Views.{Contains-keys_from_lookup}
use Rattle.checkpoints.specs.declared.shifting.LengthChange.{LengthChange}
use Rattle.checkpoints.specs.Places.{StartsAtZero}
use Rattle.checkpoints.specs.Stored.{IsStoredAt}
use Rattle.checkpoints.specs.Changes.{is_kept, cut, moved, shifted, CanShift}
use Rattle.checkpoints.proofs.Shifts.{Contains_head, Contains_rest, moved_below}

module _ {S : Type 0} where
  pub keys_shifted : (from : ℕ) (change : LengthChange) (states : List (ℕ × S)) → keys_of (shifted from change states) ≡ map (moved from change) (keys_of states)
  keys_shifted from change [] = refl
  keys_shifted from change (e ∷ es) = ap (λ l. moved from change e.0 ∷ l) (keys_shifted from change es)

  pub lookup_put : (states : List (ℕ × S)) (p : ℕ) (s : S) (q : ℕ) → lookup (eqb q) (insert_entry nat_cmp states p s) ≡ cond (eqb q p) (Some s) (lookup (eqb q) states)
  lookup_put [] p s q = refl
  lookup_put (e ∷ es) p s q = elim (cases_order p e.0) [
    | inl same ↦ rw (le-ltb p e.0 (omega (arith, same)), eq-eqb p e.0 same) (elim (cases_eq q p) [
      | inl at ↦ rw (eq-eqb q p at, eq-eqb q e.0 (at ∙ same)) refl
      | inr other ↦ rw (ne_eqb q p other, ne_eqb q e.0 (λ h. other (h ∙ sym same))) refl
    ])
    | inr apart ↦ elim apart [
      | inl less ↦ rw (lt-ltb p e.0 less) refl
      | inr more ↦
          rw (le-ltb p e.0 (omega arith), ne_eqb p e.0 (λ h. omega (arith, h, more)), lookup_put es p s q) (elim (cases_eq q e.0) [
            | inl at ↦ rw (eq-eqb q e.0 at, ne_eqb q p (λ h. omega (arith, h, at, more))) refl
            | inr other ↦ rw (ne_eqb q e.0 other) refl
          ])
    ]
  ]

  pub lookup_cut : (states : List (ℕ × S)) (low high q : ℕ) → lookup (eqb q) (cut low high states) ≡ cond (is_kept low high q) (lookup (eqb q) states) None
  lookup_cut [] low high q = let none : Option S = None in elim (is_kept low high q) as (λ b. none ≡ cond b none none) [ true ↦ refl | false ↦ refl ]
  lookup_cut (e ∷ es) low high q = elim (cases_eq q e.0) [
    | inl at ↦ (elim (is_kept low high e.0) as (λ b. is_kept low high e.0 ≡ b → lookup (eqb q) (cut low high (e ∷ es)) ≡ cond (is_kept low high q) (lookup (eqb q) (e ∷ es)) None) [
      | true ↦ λ is. rw (at, is, eq-eqb e.0 e.0 refl) refl
      | false ↦ λ is. let rest = rw (at, is) at (lookup_cut es low high q) in rw (at, is) rest
    ]) refl
    | inr other ↦ (elim (is_kept low high e.0) as (λ b. is_kept low high e.0 ≡ b → lookup (eqb q) (cut low high (e ∷ es)) ≡ cond (is_kept low high q) (lookup (eqb q) (e ∷ es)) None) [
      | true ↦ λ is. rw (is, ne_eqb q e.0 other) (lookup_cut es low high q)
      | false ↦ λ is. rw (is, ne_eqb q e.0 other) (lookup_cut es low high q)
    ]) refl
  ]

  -- a state comes from the place that moved there
  pub from_shifted : (from : ℕ) (change : LengthChange) (states : List (ℕ × S)) (q : ℕ) (s : S) → IsStoredAt (shifted from change states) q s → (place : ℕ) × IsStoredAt states place s × (moved from change place ≡ q)
  from_shifted from change [] q s is = cc
  from_shifted from change (e ∷ es) q s is = elim (cases_eq q (moved from change e.0)) [
    | inl at ↦ let is' = rw (eq-eqb q (moved from change e.0) at) at is in (e.0, rw (eq-eqb e.0 e.0 refl) is', sym at)
    | inr other ↦
        let is' = rw (ne_eqb q (moved from change e.0) other) at is in
        let rest = from_shifted from change es q s is' in
        let apart : rest.0 ≡ e.0 → ⊥ = λ h. other (sym rest.2 ∙ ap (moved from change) h) in
        (rest.0, rw (ne_eqb rest.0 e.0 apart) rest.1, rest.2)
  ]

  -- and where places stay apart, it is found there
  at_moved : (f : ℕ → ℕ) (states : List (ℕ × S)) → ((p q : ℕ) → Contains (keys_of states) p → Contains (keys_of states) q → p < q → f p < f q) → (place : ℕ) (s : S) → IsStoredAt states place s → IsStoredAt (map (λ e. (f e.0, e.1)) states) (f place) s
  at_moved f [] keeps place s is = cc
  at_moved f (e ∷ es) keeps place s is = elim (cases_eq place e.0) [
    | inl at ↦ let is' = rw (eq-eqb place e.0 at) at is in rw (at, eq-eqb (f e.0) (f e.0) refl) is'
    | inr other ↦
        let is' = rw (ne_eqb place e.0 other) at is in
        let some : lookup (eqb place) es ≡ Some s = is' in
        let there = Contains-keys_from_lookup {eq = eqb} eqb-true place es (rw some refl) in
        let first = Contains_head e.0 (keys_of es) in
        let later = Contains_rest e.0 (keys_of es) place there in
        let apart : f place ≡ f e.0 → ⊥ = λ h. elim (cases_order place e.0) [
          | inl same ↦ other same
          | inr order ↦ elim order [
            | inl less ↦ omega (arith, h, keeps place e.0 later first less)
            | inr more ↦ omega (arith, h, keeps e.0 place first later more)
          ]
        ] in
        rw (ne_eqb (f place) (f e.0) apart)
        (at_moved f es (λ p q cp cq. keeps p q (Contains_rest e.0 (keys_of es) p cp) (Contains_rest e.0 (keys_of es) q cq)) place s is')
  ]

  pub to_shifted : (from : ℕ) (change : LengthChange) (states : List (ℕ × S)) (place : ℕ) (s : S) → 0 < from → StartsAtZero (keys_of states) → CanShift from change (keys_of states) → IsStoredAt states place s → IsStoredAt (shifted from change states) (moved from change place) s
  to_shifted from change states place s positive starts can is =
      at_moved (moved from change) states (λ p q cp cq lt. moved_below from change p q (keys_of states) positive starts can cp cq lt) place s is
