-- What stands at a place of two lists, one behind the other.
use Rattle.std.proofs.Common.{◌≡◌, ◌⊎◌, ℕ, zero, suc, ◌+◌, List, [], ◌∷◌, ◌++◌, length, Some, subst, inl, inr, arith}
use Rattle.std.specs.Prelude.{slice_get}

-- it stands in the one or in the other
pub get_joined : {X : Type 0} (xs ys : List X) (at : ℕ) (x : X) → slice_get (xs ++ ys) at ≡ Some x
    → (slice_get xs at ≡ Some x) ⊎ ((k : ℕ) × (at ≡ length xs + k) × (slice_get ys k ≡ Some x))
get_joined [] ys at x is = inr (at, omega arith, is)
get_joined (z ∷ zs) ys zero x is = inl is
get_joined (z ∷ zs) ys (suc at) x is =
    elim (get_joined zs ys at x is) [ inl there ↦ inl there | inr there ↦ inr (there.0, omega arith, there.2) ]

pub stands_left : {X : Type 0} (xs ys : List X) (at : ℕ) (x : X) → slice_get xs at ≡ Some x
    → slice_get (xs ++ ys) at ≡ Some x
stands_left [] ys at x is = absurd cc
stands_left (z ∷ zs) ys zero x is = is
stands_left (z ∷ zs) ys (suc at) x is = stands_left zs ys at x is

pub stands_right : {X : Type 0} (xs ys : List X) (at k : ℕ) (x : X) → at ≡ length xs + k → slice_get ys k ≡ Some x
    → slice_get (xs ++ ys) at ≡ Some x
stands_right [] ys at k x here is =
    let same : k ≡ at = omega arith in subst (λ (n : ℕ). slice_get ys n ≡ Some x) same is
stands_right (z ∷ zs) ys zero k x here is = absurd (omega arith)
stands_right (z ∷ zs) ys (suc at) k x here is = stands_right zs ys at k x (omega arith) is
