-- Which places are there after a state is put, and after a range is cut.
use Rattle.std.proofs.Common.{◌≡◌, ◌⊎◌, ℕ, zero, suc, ◌<◌, ◌≤◌, true, false, List, [], ◌∷◌, length, get_or, All, Contains, map, Some, refl, sym, ◌∙◌, subst, arith, eqb, leb, inl, inr}
use Rattle.std.specs.Map.{keys_of, lookup}
use Rattle.std.specs.Ordering.{nat_cmp}
use Rattle.std.specs.BTreeMap.{insert_entry}
use Rattle.std.proofs.lemmas.Bool.{cases_lt, cases_order, lt-ltb, le-ltb, lt-leb, le-leb, leb-true, or_cases, eqb-true, eq-eqb, ne_eqb}
use Rattle.std.proofs.lemmas.List.Elements.{All-head, All-tail}
use Rattle.std.proofs.lemmas.Map.Views.{Contains-from_lookup}
use Rattle.checkpoints.specs.Stored.{IsBefore}
use Rattle.checkpoints.specs.Changes.{is_kept, cut}
use Rattle.checkpoints.proofs.Shifts.{Contains_head, Contains_rest}

at_cases : {X : Type 0} (y : X) (ys : List X) (x : X) (k : ℕ) → k < length (y ∷ ys) → get_or (y ∷ ys) k x ≡ x → (y ≡ x) ⊎ Contains ys x
at_cases y ys x zero within is = inl is
at_cases y ys x (suc k) within is = inr (k, omega arith, is)

-- it is the first or one of the others
pub Contains_cases : {X : Type 0} (y : X) (ys : List X) (x : X) → Contains (y ∷ ys) x → (y ≡ x) ⊎ Contains ys x
Contains_cases y ys x c = at_cases y ys x c.0 c.1 c.2

-- what holds of each holds of one
pub of_each : {X : Type 0} (Q : X → Type 0) (xs : List X) (x : X) → All Q xs → Contains xs x → Q x
of_each Q xs x all c = subst Q c.2 (all c.0 x c.1)

pub Contains_map : (f : ℕ → ℕ) (ps : List ℕ) (p : ℕ) → Contains ps p → Contains (map f ps) (f p)
Contains_map f [] p c = absurd (omega (arith, c.1))
Contains_map f (q ∷ qs) p c = elim (Contains_cases q qs p c) [
  | inl same ↦ subst (λ x. Contains (f q ∷ map f qs) (f x)) same (Contains_head (f q) (map f qs))
  | inr rest ↦ Contains_rest (f q) (map f qs) (f p) (Contains_map f qs p rest)
]

-- those are kept
kept_true : (low high p : ℕ) → (p ≤ low) ⊎ (high ≤ p) → is_kept low high p ≡ true
kept_true low high p (inl le) = rw (le-leb p low le) refl
kept_true low high p (inr ge) = elim (cases_lt low p) [
  | inl above ↦ rw (lt-leb p low above, le-leb high p ge) refl
  | inr le ↦ rw (le-leb p low le) refl
]

module _ {S : Type 0} where
  pub Contains_put : (states : List (ℕ × S)) (q : ℕ) (s : S) (p : ℕ) → Contains (keys_of states) p → Contains (keys_of (insert_entry nat_cmp states q s)) p
  Contains_put [] q s p c = absurd (omega (arith, c.1))
  Contains_put (e ∷ es) q s p c = elim (cases_order q e.0) [
    | inl same ↦ rw (le-ltb q e.0 (omega (arith, same)), eq-eqb q e.0 same) c
    | inr other ↦ elim other [
      | inl less ↦ rw (lt-ltb q e.0 less) (Contains_rest q (keys_of (e ∷ es)) p c)
      | inr more ↦
          rw (le-ltb q e.0 (omega arith), ne_eqb q e.0 (λ h. omega (arith, h, more)))
          (elim (Contains_cases e.0 (keys_of es) p c) [
            | inl same ↦ subst (Contains (e.0 ∷ keys_of (insert_entry nat_cmp es q s))) same (Contains_head e.0 (keys_of (insert_entry nat_cmp es q s)))
            | inr rest ↦ Contains_rest e.0 (keys_of (insert_entry nat_cmp es q s)) p (Contains_put es q s p rest)
          ])
    ]
  ]

  pub Contains_put_new : (states : List (ℕ × S)) (q : ℕ) (s : S) → Contains (keys_of (insert_entry nat_cmp states q s)) q
  Contains_put_new [] q s = Contains_head q []
  Contains_put_new (e ∷ es) q s = elim (cases_order q e.0) [
    | inl same ↦ rw (le-ltb q e.0 (omega (arith, same)), eq-eqb q e.0 same) (subst (Contains (e.0 ∷ keys_of es)) (sym same) (Contains_head e.0 (keys_of es)))
    | inr other ↦ elim other [
      | inl less ↦ rw (lt-ltb q e.0 less) (Contains_head q (keys_of (e ∷ es)))
      | inr more ↦
          rw (le-ltb q e.0 (omega arith), ne_eqb q e.0 (λ h. omega (arith, h, more)))
          (Contains_rest e.0 (keys_of (insert_entry nat_cmp es q s)) q (Contains_put_new es q s))
    ]
  ]

  pub Contains_cut : (states : List (ℕ × S)) (low high p : ℕ) → (p ≤ low) ⊎ (high ≤ p) → Contains (keys_of states) p → Contains (keys_of (cut low high states)) p
  Contains_cut [] low high p kept c = absurd (omega (arith, c.1))
  Contains_cut (e ∷ es) low high p kept c = elim (Contains_cases e.0 (keys_of es) p c) [
    | inl same ↦
        let is : is_kept low high e.0 ≡ true = subst (λ x. is_kept low high x ≡ true) (sym same) (kept_true low high p kept) in
        rw is (subst (Contains (e.0 ∷ keys_of (cut low high es))) same (Contains_head e.0 (keys_of (cut low high es))))
    | inr rest ↦ (elim (is_kept low high e.0) as (λ b. is_kept low high e.0 ≡ b → Contains (keys_of (cut low high (e ∷ es))) p) [
      | true ↦ λ is. rw is (Contains_rest e.0 (keys_of (cut low high es)) p (Contains_cut es low high p kept rest))
      | false ↦ λ is. rw is (Contains_cut es low high p kept rest)
    ]) refl
  ]

  -- what is left is at or below `low`, or not below `high`
  pub kept_from_cut : (states : List (ℕ × S)) (low high p : ℕ) → Contains (keys_of (cut low high states)) p → (p ≤ low) ⊎ (high ≤ p)
  kept_from_cut [] low high p c = absurd (omega (arith, c.1))
  kept_from_cut (e ∷ es) low high p c = (elim (is_kept low high e.0) as (λ b. is_kept low high e.0 ≡ b → (p ≤ low) ⊎ (high ≤ p)) [
    | true ↦ λ is. let c' = rw is at c in elim (Contains_cases e.0 (keys_of (cut low high es)) p c') [
      | inl same ↦ elim (or_cases (leb e.0 low) (leb high e.0) is) [
        | inl le ↦ inl (subst (λ x. x ≤ low) same (leb-true e.0 low le))
        | inr ge ↦ inr (subst (λ x. high ≤ x) same (leb-true high e.0 ge))
      ]
      | inr rest ↦ kept_from_cut es low high p rest
    ]
    | false ↦ λ is. kept_from_cut es low high p (rw is at c)
  ]) refl

  pub one_place : (states : List (ℕ × S)) (place p q : ℕ) (s t : S) → IsBefore states place p s → IsBefore states place q t → p ≡ q
  one_place states place p q s t b d =
      let at-p = Contains-from_lookup {eq = eqb} eqb-true p s states b.stored in
      let at-q = Contains-from_lookup {eq = eqb} eqb-true q t states d.stored in
      let le : p ≤ q = of_each (λ (e : ℕ × S). e.0 ≤ place → e.0 ≤ q) states (p, s) d.greatest at-p b.not_above in
      let ge : q ≤ p = of_each (λ (e : ℕ × S). e.0 ≤ place → e.0 ≤ p) states (q, t) b.greatest at-q d.not_above in
      omega (arith, le, ge)

  pub one_state : (states : List (ℕ × S)) (place p q : ℕ) (s t : S) → IsBefore states place p s → IsBefore states place q t → s ≡ t
  one_state states place p q s t b d =
      let same = one_place states place p q s t b d in
      let both : Some s ≡ Some t = sym (subst (λ x. lookup (eqb x) states ≡ Some s) same b.stored) ∙ d.stored in cc

  -- a place isn't above the last
  pub le_last : (states : List (ℕ × S)) (last : ℕ) → All (λ e. e.0 ≤ last) states → (p : ℕ) → Contains (keys_of states) p → p ≤ last
  le_last [] last all p c = absurd (omega (arith, c.1))
  le_last (e ∷ es) last all p c = elim (Contains_cases e.0 (keys_of es) p c) [
    | inl same ↦ subst (λ x. x ≤ last) same (All-head (λ (f : ℕ × S). f.0 ≤ last) e es all)
    | inr rest ↦ le_last es last (All-tail (λ (f : ℕ × S). f.0 ≤ last) e es all) p rest
  ]
