-- Numbers that a filter leaves keep their bound and stay apart.
use Rattle.std.proofs.Common.{◌≡◌, sym, ◌∙◌, ap, ℕ, zero, suc, ◌<◌, List, [], ◌∷◌, length, get_or, Bool, true, false, cond, arith}
use Rattle.std.specs.Prelude.{slice_index}
use Rattle.std.specs.List.{filter}
use Rattle.decode_jobs.specs.Placed.{ArePlaced}

-- the number is not among these
abbrev Misses : ℕ → List ℕ → Type 0
Misses n [] = Unit {0}
Misses n (x ∷ xs) = (x ≡ n → ⊥) × Misses n xs

-- each number is below the bound and not among those after it
abbrev Apart : ℕ → List ℕ → Type 0
Apart bound [] = Unit {0}
Apart bound (x ∷ xs) = (x < bound) × Misses x xs × Apart bound xs

misses_from : (n : ℕ) (xs : List ℕ) → ((i : ℕ) → i < length xs → get_or xs i 0 ≡ n → ⊥) → Misses n xs
misses_from n [] h = tt
misses_from n (x ∷ xs) h = (h 0 (omega arith), misses_from n xs (λ i lt. h (suc i) (omega arith)))

misses_at : (n : ℕ) (xs : List ℕ) → Misses n xs → (i : ℕ) → i < length xs → get_or xs i 0 ≡ n → ⊥
misses_at n [] m i lt = absurd (omega arith)
misses_at n (x ∷ xs) m zero lt = m.0
misses_at n (x ∷ xs) m (suc i) lt = misses_at n xs m.1 i (omega arith)

apart_from : (bound : ℕ) (xs : List ℕ) → ((i : ℕ) → i < length xs → get_or xs i 0 < bound)
    → ((i j : ℕ) → i < j → j < length xs → get_or xs i 0 ≡ get_or xs j 0 → ⊥) → Apart bound xs
apart_from bound [] below apart = tt
apart_from bound (x ∷ xs) below apart = (
  below 0 (omega arith),
  misses_from x xs (λ i lt e. apart 0 (suc i) (omega arith) (omega arith) (sym e)),
  apart_from bound xs (λ i lt. below (suc i) (omega arith)) (λ i j lt within. apart (suc i) (suc j) (omega arith) (omega arith)),
)

misses-filter : (p : ℕ → Bool) (n : ℕ) (xs : List ℕ) → Misses n xs → Misses n (filter p xs)
misses-filter p n [] m = tt
misses-filter p n (x ∷ xs) m =
    elim (p x) as (λ b. Misses n (cond b (x ∷ filter p xs) (filter p xs))) [
      | true ↦ (m.0, misses-filter p n xs m.1)
      | false ↦ misses-filter p n xs m.1
    ]

apart-filter : (p : ℕ → Bool) (bound : ℕ) (xs : List ℕ) → Apart bound xs → Apart bound (filter p xs)
apart-filter p bound [] a = tt
apart-filter p bound (x ∷ xs) a =
    elim (p x) as (λ b. Apart bound (cond b (x ∷ filter p xs) (filter p xs))) [
      | true ↦ (a.0, misses-filter p x xs a.1, apart-filter p bound xs a.2)
      | false ↦ apart-filter p bound xs a.2
    ]

below_at : (bound : ℕ) (xs : List ℕ) → Apart bound xs → (i : ℕ) → i < length xs → get_or xs i 0 < bound
below_at bound [] a i lt = absurd (omega arith)
below_at bound (x ∷ xs) a zero lt = a.0
below_at bound (x ∷ xs) a (suc i) lt = below_at bound xs a.2 i (omega arith)

apart_at : (bound : ℕ) (xs : List ℕ) → Apart bound xs → (i j : ℕ) → i < j → j < length xs → get_or xs i 0 ≡ get_or xs j 0 → ⊥
apart_at bound [] a i j lt within = absurd (omega arith)
apart_at bound (x ∷ xs) a i zero lt within = absurd (omega arith)
apart_at bound (x ∷ xs) a zero (suc j) lt within = λ e. misses_at x xs a.1 j (omega arith) (sym e)
apart_at bound (x ∷ xs) a (suc i) (suc j) lt within = apart_at bound xs a.2 i j (omega arith) (omega arith)

module _ (p : ℕ → Bool) (live places : List ℕ) (placed : ArePlaced live places) where
  apart : Apart (length places) (filter p live)
  apart = apart-filter p (length places) live (apart_from (length places) live placed.below
      (λ i j lt within e.
      let same : i ≡ j = sym (placed.exact i (omega arith)) ∙ ap (slice_index places) e ∙ placed.exact j within in
      absurd (omega arith)))

  pub left_below : (i : ℕ) → i < length (filter p live) → slice_index (filter p live) i < length places
  left_below = below_at (length places) (filter p live) apart

  pub left_apart : (i j : ℕ) → i < j → j < length (filter p live) → slice_index (filter p live) i ≡ slice_index (filter p live) j → ⊥
  left_apart = apart_at (length places) (filter p live) apart
