-- Places that fall.
use Rattle.std.proofs.Common.{subst, ℕ, ◌<◌, List, [], ◌∷◌, ◌++◌, Contains, inl, inr}
use Rattle.std.proofs.lemmas.List.Elements.{Contains-push_cases}
use Rattle.held_pictures.proofs.Members.{here, there, nowhere}
use Rattle.held_pictures.specs.Needed.{AreFalling}

-- a place below all goes to the end
pub falling_push : (xs : List ℕ) (x : ℕ) → AreFalling xs → ((y : ℕ) → Contains xs y → x < y) → AreFalling (xs ++ x ∷ [])
falling_push [] x falling below = (λ other is. absurd (nowhere other is), tt)
falling_push (y ∷ ys) x falling below = (
  λ other is. elim (Contains-push_cases ys x other is) [
    | inl there_is ↦ falling.0 other there_is
    | inr same ↦ subst (λ n. n < y) same (below y (here y ys))
  ],
  falling_push ys x falling.1 (λ other is. below other (there y other ys is)),
)
