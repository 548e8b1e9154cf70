-- A key stands in a list exactly where it is counted there.
use Rattle.std.proofs.Common.{◌≡◌, refl, ap, sym, subst, ◌∙◌, ℕ, ◌<◌, Bool, true, false, ◌==◌, List, [], ◌∷◌, Option, None, Some, if◌then◌else◌, inl, inr, ◌⊎◌, arith}
use Rattle.std.specs.Prelude.{Contains}
use Rattle.std.proofs.lemmas.Bool.{eqb-true, eq-eqb}
use Rattle.std.proofs.lemmas.List.Sums.{sum_by-cons}
use Rattle.held_pictures.specs.Counting.{once_if, once_at, times, times_in}
use Rattle.held_pictures.proofs.Members.{here, there, nowhere, first_or_among}

pub once_own : (key : ℕ) → once_if key key ≡ 1
once_own key = ap (λ (b : Bool). if b then 1 else 0) (eq-eqb key key refl)

-- an entry that stands in a list is counted
pub counted_some : (number : ℕ) (keys : List (Option ℕ)) → Contains keys (Some number) → 0 < times number keys
counted_some number [] is = absurd (nowhere (Some number) is)
counted_some number (key ∷ keys) is =
    elim (first_or_among key (Some number) keys is) [
      | inl same ↦
          let one : once_at number key ≡ 1 = ap (once_at number) same ∙ once_own number in
          omega (arith, sum_by-cons (once_at number) key keys, one)
      | inr later ↦ omega (arith, sum_by-cons (once_at number) key keys, counted_some number keys later)
    ]

counted_at : (b : Bool) (number key : ℕ) → b ≡ (key == number) → (◌≡◌ {A = ℕ} (if b then 1 else 0) 0) ⊎ (key ≡ number)
counted_at true number key is = inr (eqb-true key number (sym is))
counted_at false number key is = inl refl

-- an entry is none of the key, or it is it
pub once_or : (number : ℕ) (key : Option ℕ) → (once_at number key ≡ 0) ⊎ (key ≡ Some number)
once_or number None = inl refl
once_or number (Some key) =
    elim (counted_at (key == number) number key refl) [ inl none ↦ inl none | inr same ↦ inr (ap Some same) ]

-- and what is counted stands there
pub some_counted : (number : ℕ) (keys : List (Option ℕ)) → 0 < times number keys → Contains keys (Some number)
some_counted number [] is = absurd (omega (arith, is))
some_counted number (key ∷ keys) is =
    elim (once_or number key) [
      | inl none ↦
          there key (Some number) keys
          (some_counted number keys (omega (arith, is, sum_by-cons (once_at number) key keys, none)))
      | inr same ↦ subst (λ (k : Option ℕ). Contains (key ∷ keys) k) same (here key keys)
    ]

-- a key that stands among keys is counted
pub counted_in : (number : ℕ) (keys : List ℕ) → Contains keys number → 0 < times_in number keys
counted_in number [] is = absurd (nowhere number is)
counted_in number (key ∷ keys) is =
    elim (first_or_among key number keys is) [
      | inl same ↦
          let one : once_if number key ≡ 1 = ap (once_if number) same ∙ once_own number in
          omega (arith, sum_by-cons (once_if number) key keys, one)
      | inr later ↦ omega (arith, sum_by-cons (once_if number) key keys, counted_in number keys later)
    ]

-- an entry that names the key is counted
pub once_named : (number : ℕ) (key : Option ℕ) → key ≡ Some number → once_at number key ≡ 1
once_named number key is = ap (once_at number) is ∙ once_own number
