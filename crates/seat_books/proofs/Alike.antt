-- Lists that are compared element by element, and those of one element.
use Rattle.std.proofs.Common.{◌≡◌, ℕ, ◌+◌, ◌<◌, ◌≤◌, List, [], ◌∷◌, ◌++◌, length, take, get_or, ap, sym, ◌∙◌, arith}
use Rattle.std.proofs.lemmas.List.{take_more, take_all}

module _ {X : Type 0} where
  -- the first elements are the same, and the next one is
  pub alike_next : (xs ys : List X) (i : ℕ) (x y : X) → i < length xs → i < length ys → take i xs ≡ take i ys
      → x ≡ get_or xs i x → y ≡ get_or ys i y → x ≡ y → take (i + 1) xs ≡ take (i + 1) ys
  alike_next xs ys i x y low within before at other same =
      take_more xs i x low
      ∙ (ap (λ (front : List X). front ++ get_or xs i x ∷ []) before
      ∙ (ap (λ (z : X). take i ys ++ z ∷ []) (sym at ∙ (same ∙ other)) ∙ sym (take_more ys i y within)))

  -- all of them are
  pub alike_all : (xs ys : List X) (i : ℕ) → length xs ≤ i → length ys ≤ i → take i xs ≡ take i ys → xs ≡ ys
  alike_all xs ys i long far same = sym (take_all i xs long) ∙ (same ∙ take_all i ys far)

  -- the only one
  pub lone_element : (xs : List X) (x : X) → length xs ≡ 1 → x ≡ get_or xs 0 x → xs ≡ x ∷ []
  lone_element [] x one at = absurd (omega (arith, one))
  lone_element (y ∷ []) x one at = ap (λ (z : X). z ∷ []) (sym at)
  lone_element (y ∷ z ∷ zs) x one at = absurd (omega (arith, one))
