-- Two lists beside each other.
use Rattle.std.proofs.Common.{◌≡◌, ℕ, zero, suc, ◌<◌, ◌≤◌, List, [], ◌∷◌, length, get_or, arith}
use Rattle.std.specs.List.{zip}

module _ {X Y : Type 0} where
  -- a place in both has a pair
  pub zip-within : (xs : List X) (ys : List Y) (place : ℕ) → place < length xs → place < length ys → place < length (zip xs ys)
  zip-within [] ys place here there = absurd (omega (arith, here))
  zip-within (first ∷ xs) [] place here there = absurd (omega (arith, there))
  zip-within (first ∷ xs) (second ∷ ys) zero here there = omega arith
  zip-within (first ∷ xs) (second ∷ ys) (suc place) here there =
      let rest = zip-within xs ys place (omega (arith, here)) (omega (arith, there)) in omega (arith, rest)

  -- there are no more pairs than of the second
  pub zip-short : (xs : List X) (ys : List Y) → length (zip xs ys) ≤ length ys
  zip-short [] ys = omega arith
  zip-short (first ∷ xs) [] = omega arith
  zip-short (first ∷ xs) (second ∷ ys) = let rest = zip-short xs ys in omega (arith, rest)

  -- the pair at a place
  pub zip-read : (xs : List X) (ys : List Y) (place : ℕ) (x : X) (y : Y) → place < length xs → place < length ys
      → x ≡ get_or xs place x → y ≡ get_or ys place y → (x, y) ≡ get_or (zip xs ys) place (x, y)
  zip-read [] ys place x y here there is says = absurd (omega (arith, here))
  zip-read (first ∷ xs) [] place x y here there is says = absurd (omega (arith, there))
  zip-read (first ∷ xs) (second ∷ ys) zero x y here there is says = cc
  zip-read (first ∷ xs) (second ∷ ys) (suc place) x y here there is says =
      zip-read xs ys place x y (omega (arith, here)) (omega (arith, there)) is says
