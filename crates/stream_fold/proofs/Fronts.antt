-- Fronts and rests of lists.
use Rattle.std.proofs.Common.{◌≡◌, ℕ, ◌+◌, ◌-◌, ◌<◌, ◌≤◌, List, [], ◌∷◌, ◌++◌, length, take, drop, ap, sym, ◌∙◌, arith, get_or, drop-cons}
use Rattle.std.proofs.Math.Seq.{take-add, take-append-add, drop-append-add}
use Rattle.std.proofs.lemmas.List.{take-append-le, take-take, length-take-le}

module _ {A : Type 0} where
  -- a front, whatever is behind it
  pub take_front : (p q : ℕ) (xs ys : List A) → p ≤ q → q ≤ length xs → take p (take q xs ++ ys) ≡ take p xs
  take_front p q xs ys le within =
      let short : p ≤ length (take q xs) = omega (arith, length-take-le q xs within) in
      take-append-le p (take q xs) ys short ∙ take-take p q xs le

  -- a front and a range behind it
  pub take_more_of : (p q : ℕ) (xs : List A) → p ≤ q → take q xs ≡ take p xs ++ take (q - p) (drop p xs)
  take_more_of p q xs le =
      let sum : q ≡ p + (q - p) = omega arith in
      ap (λ (n : ℕ). take n xs) sum ∙ take-add p (q - p) xs

  -- past two lists
  pub take_past : (front made rest : List A) (q n : ℕ) → q ≡ length front + length made + n
      → take q (front ++ (made ++ rest)) ≡ front ++ (made ++ take n rest)
  take_past front made rest q n is =
      let sum : q ≡ length front + (length made + n) = omega (arith, is) in
      ap (λ (m : ℕ). take m (front ++ (made ++ rest))) sum
      ∙ (take-append-add front (made ++ rest) (length made + n)
      ∙ ap (λ (ys : List A). front ++ ys) (take-append-add made rest n))

  pub drop_past : (front made rest : List A) (q n : ℕ) → q ≡ length front + length made + n
      → drop q (front ++ (made ++ rest)) ≡ drop n rest
  drop_past front made rest q n is =
      let sum : q ≡ length front + (length made + n) = omega (arith, is) in
      ap (λ (m : ℕ). drop m (front ++ (made ++ rest))) sum
      ∙ (drop-append-add front (made ++ rest) (length made + n) ∙ drop-append-add made rest n)

  -- one item
  pub one_at : (xs : List A) (at : ℕ) (x : A) → at < length xs → x ≡ get_or xs at x → take 1 (drop at xs) ≡ x ∷ []
  one_at xs at x within is =
      ap (λ (ys : List A). take 1 ys) (drop-cons xs at x within) ∙ ap (λ (y : A). y ∷ []) (sym is)
