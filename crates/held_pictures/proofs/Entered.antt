-- Ids that are added entry by entry, and that are taken out.
use Rattle.std.proofs.Common.{◌≡◌, refl, sym, ◌∙◌, subst, ℕ, ◌<◌, ◌==◌, Bool, true, false, cond, not, List, [], ◌∷◌, filter, length, Some, IsTrue, ◌||◌, Contains, ◌↔◌, inl, inr, slice_get, get_or}
use Rattle.std.specs.List.{list_any}
use Rattle.std.proofs.lemmas.Bool.{eqb-true, eq-eqb}
use Rattle.std.proofs.lemmas.List.Elements.{Contains-get_or}
use Rattle.std.proofs.lemmas.Option.{get_or_from_slice_get}
use Rattle.held_pictures.proofs.Members.{here, there, nowhere, first_or_among}

module _ {X : Type 0} where
  -- what is read at a place is what is there
  pub read_is : (xs : List X) (i : ℕ) (x y : X) → slice_get xs i ≡ Some x → y ≡ get_or xs i y → y ≡ x
  read_is xs i x y got is = is ∙ get_or_from_slice_get xs i x y got

  -- and is contained
  pub read_among : (xs : List X) (i : ℕ) (y : X) → i < length xs → y ≡ get_or xs i y → Contains xs y
  read_among xs i y within is = subst (Contains xs) (sym is) (Contains-get_or xs i y within)

any_first : (first : ℕ) (ids : List ℕ) (id : ℕ) (b : Bool) → b ≡ (first == id)
    → (IsTrue (list_any (λ other. other == id) ids) ↔ Contains ids id)
    → IsTrue (b || list_any (λ other. other == id) ids) ↔ Contains (first ∷ ids) id
any_first first ids id true is rest = (
  λ yes. subst (Contains (first ∷ ids)) (eqb-true first id (sym is)) (here first ids),
  λ among. refl,
)
any_first first ids id false is rest = (
  λ yes. there first id ids (rest.0 yes),
  λ among. elim (first_or_among first id ids among) [
    | inl same ↦
        let yes : (first == id) ≡ true = eq-eqb first id same in
        cc
    | inr later ↦ rest.1 later
  ],
)

-- whether an id is among others, item by item
pub any_among : (ids : List ℕ) (id : ℕ) → IsTrue (list_any (λ other. other == id) ids) ↔ Contains ids id
any_among [] id = (λ yes. cc, λ is. absurd (nowhere id is))
any_among (first ∷ ids) id = any_first first ids id (first == id) refl (any_among ids id)

-- those of these that aren't the id
abbrev others : ℕ → List ℕ → List ℕ
others id ids = filter (λ (one : ℕ). not (one == id)) ids

left_first : (id first : ℕ) (ids : List ℕ) (other : ℕ) (b : Bool) → b ≡ (first == id)
    → (Contains (others id ids) other ↔ (Contains ids other × (other ≡ id → ⊥)))
    → Contains (cond (not b) (first ∷ others id ids) (others id ids)) other
    ↔ (Contains (first ∷ ids) other × (other ≡ id → ⊥))
left_first id first ids other true is rest =
    let same : first ≡ id = eqb-true first id (sym is) in (
      λ among. (there first other ids (rest.0 among).0, (rest.0 among).1),
      λ both. elim (first_or_among first other ids both.0) [
        | inl is_first ↦ absurd (both.1 (sym is_first ∙ same))
        | inr later ↦ rest.1 (later, both.1)
      ],
    )
left_first id first ids other false is rest = (
  λ among. elim (first_or_among first other (others id ids) among) [
    | inl is_first ↦ (
      subst (Contains (first ∷ ids)) is_first (here first ids),
      λ same.
          let yes : (first == id) ≡ true = eq-eqb first id (is_first ∙ same) in
          cc,
    )
    | inr later ↦ (there first other ids (rest.0 later).0, (rest.0 later).1)
  ],
  λ both. elim (first_or_among first other ids both.0) [
    | inl is_first ↦ subst (Contains (first ∷ others id ids)) is_first (here first (others id ids))
    | inr later ↦ there first other (others id ids) (rest.1 (later, both.1))
  ],
)

-- those that aren't the id are left
pub left_without : (id : ℕ) (ids : List ℕ) (other : ℕ)
    → Contains (filter (λ (one : ℕ). not (one == id)) ids) other ↔ (Contains ids other × (other ≡ id → ⊥))
left_without id [] other = (λ is. absurd (nowhere other is), λ is. absurd (nowhere other is.0))
left_without id (first ∷ ids) other = left_first id first ids other (first == id) refl (left_without id ids other)
