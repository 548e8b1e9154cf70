-- Lists with one more element.
use Rattle.std.proofs.Common.{◌≡◌, ◌⊎◌, ℕ, zero, suc, ◌+◌, List, [], ◌∷◌, ◌++◌, length, take, Some, refl, ap, ◌∙◌, arith, inl, inr}
use Rattle.std.specs.Prelude.{slice_get, Contains}
use Rattle.std.proofs.lemmas.List.{take_more}
use Rattle.std.proofs.lemmas.Option.{slice_get_within, get_or_from_slice_get}

one_some : {X : Type 0} (a b : X) → Some a ≡ Some b → b ≡ a
one_some a b same = cc

-- an element of a list with one more: it stands there before, or is the one more
pub get_push : {X : Type 0} (xs : List X) (y x : X) (at : ℕ) → slice_get (xs ++ y ∷ []) at ≡ Some x
    → (slice_get xs at ≡ Some x) ⊎ ((at ≡ length xs) × (x ≡ y))
get_push [] y x zero is = inr (refl, one_some y x is)
get_push [] y x (suc at) is = absurd cc
get_push (z ∷ zs) y x zero is = inl is
get_push (z ∷ zs) y x (suc at) is =
    elim (get_push zs y x at is) [ inl there ↦ inl there | inr last ↦ inr (ap suc last.0, last.1) ]

-- what stands in a list stands there with one more
pub get_before : {X : Type 0} (xs : List X) (y x : X) (at : ℕ) → slice_get xs at ≡ Some x
    → slice_get (xs ++ y ∷ []) at ≡ Some x
get_before [] y x at is = absurd cc
get_before (z ∷ zs) y x zero is = is
get_before (z ∷ zs) y x (suc at) is = get_before zs y x at is

-- the one more is the last
pub get_last : {X : Type 0} (xs : List X) (y : X) → slice_get (xs ++ y ∷ []) (length xs) ≡ Some y
get_last [] y = refl
get_last (z ∷ zs) y = get_last zs y

-- what stands in a list is among its elements
pub among : {X : Type 0} (xs : List X) (at : ℕ) (x : X) → slice_get xs at ≡ Some x → Contains xs x
among xs at x is = (at, slice_get_within xs at x is, get_or_from_slice_get xs at x x is)

-- the only element
pub lone_is : {X : Type 0} (x y : X) → Contains (x ∷ []) y → x ≡ y
lone_is x y (zero, within, is) = is
lone_is x y (suc at, within, is) = absurd (omega (arith, within))

-- the first elements with the next one
pub take_next : {X : Type 0} (xs : List X) (i : ℕ) (x : X) → slice_get xs i ≡ Some x → take (i + 1) xs ≡ take i xs ++ x ∷ []
take_next xs i x stands =
    take_more xs i x (slice_get_within xs i x stands)
    ∙ ap (λ (y : _). take i xs ++ y ∷ []) (get_or_from_slice_get xs i x x stands)
