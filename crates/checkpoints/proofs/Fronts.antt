-- How many places of a rising list aren't above a place.
use Rattle.std.proofs.Common.{◌≡◌, ℕ, suc, ◌<◌, ◌≤◌, List, [], ◌∷◌, refl, arith, inl, inr}
use Rattle.std.specs.List.{AllByRecursion, zip}
use Rattle.std.proofs.lemmas.Bool.{cases_lt, le-leb, lt-leb}
use Rattle.checkpoints.specs.Places.{StartsAtZero, AreRising}
use Rattle.checkpoints.specs.Search.{places_up_to}

-- a fact of each element gives a weaker one
pub weaker : {X : Type 0} (P Q : X → Type 0) → ((x : X) → P x → Q x) → (xs : List X) → AllByRecursion P xs → AllByRecursion Q xs
weaker P Q to [] all = tt
weaker P Q to (x ∷ xs) all = (to x all.0, weaker P Q to xs all.1)

-- one of the places is one of the entries
pub All-zip : {S : Type 0} (Q : ℕ → Type 0) (ps : List ℕ) (ss : List S) → AllByRecursion Q ps → AllByRecursion (λ e. Q e.0) (zip ps ss)
All-zip Q [] ss all = tt
All-zip Q (p ∷ ps) [] all = tt
All-zip Q (p ∷ ps) (s ∷ ss) all = (all.0, All-zip Q ps ss all.1)

-- where no place at the front isn't above p, all are
pub all_above : (ps : List ℕ) (p : ℕ) → AreRising ps → places_up_to ps p ≡ 0 → AllByRecursion (λ o. p < o) ps
all_above [] p rising none = tt
all_above (q ∷ qs) p rising none = elim (cases_lt p q) [
  | inl above ↦ (above, weaker (λ o. q < o) (λ o. p < o) (λ o h. omega (arith, h)) qs rising.0)
  | inr le ↦ let none' = rw (le-leb q p le) at none in absurd (omega (arith, none'))
]

-- and the other way round
pub none_up_to : (ps : List ℕ) (p : ℕ) → AllByRecursion (λ o. p < o) ps → places_up_to ps p ≡ 0
none_up_to [] p above = refl
none_up_to (q ∷ qs) p above = rw (lt-leb q p above.0) refl

-- place 0 isn't above any
pub first_up_to : (ps : List ℕ) (p : ℕ) → StartsAtZero ps → (n : ℕ) × (places_up_to ps p ≡ suc n)
first_up_to [] p starts = absurd starts
first_up_to (q ∷ qs) p starts = let le : q ≤ p = omega (arith, starts) in (places_up_to qs p, rw (le-leb q p le) (omega arith))

-- one place on
pub rest_up_to : (q : ℕ) (qs : List ℕ) (p n : ℕ) → places_up_to (q ∷ qs) p ≡ suc n → (q ≤ p) × (places_up_to qs p ≡ n)
rest_up_to q qs p n some = elim (cases_lt p q) [
  | inl above ↦ let some' = rw (lt-leb q p above) at some in absurd (omega (arith, some'))
  | inr le ↦ let some' = rw (le-leb q p le) at some in (le, omega (arith, some'))
]
