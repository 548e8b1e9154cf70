-- Lists with one item more, by places.
use Rattle.std.proofs.Common.{◌≡◌, ℕ, zero, suc, ◌<◌, List, [], ◌∷◌, ◌++◌, length, Some, slice_get, refl, arith}
use Rattle.std.proofs.lemmas.Option.{same_Some}

module _ {X : Type 0} where
  -- an item before the last one was there
  pub get-old : (xs : List X) (x y : X) (k : ℕ) → k < length xs → slice_get (xs ++ x ∷ []) k ≡ Some y → slice_get xs k ≡ Some y
  get-old [] x y k less is = absurd (omega (arith, less))
  get-old (head ∷ xs) x y zero less is = is
  get-old (head ∷ xs) x y (suc k) less is = get-old xs x y k (omega (arith, less)) is

  -- the last one is the one that came
  pub get-new : (xs : List X) (x y : X) (k : ℕ) → k ≡ length xs → slice_get (xs ++ x ∷ []) k ≡ Some y → x ≡ y
  get-new [] x y zero last is = same_Some x y is
  get-new [] x y (suc k) last is = absurd (omega (arith, last))
  get-new (head ∷ xs) x y zero last is = absurd (omega (arith, last))
  get-new (head ∷ xs) x y (suc k) last is = get-new xs x y k (omega (arith, last)) is

  -- a place that has an item lies within
  pub get-within : (xs : List X) (y : X) (k : ℕ) → slice_get xs k ≡ Some y → k < length xs
  get-within [] y k is = cc
  get-within (head ∷ xs) y zero is = omega arith
  get-within (head ∷ xs) y (suc k) is = let rest = get-within xs y k is in omega (arith, rest)

  -- what stands in the middle
  pub get-middle : (xs : List X) (x : X) (ys : List X) → slice_get (xs ++ x ∷ ys) (length xs) ≡ Some x
  get-middle [] x ys = refl
  get-middle (head ∷ xs) x ys = get-middle xs x ys
