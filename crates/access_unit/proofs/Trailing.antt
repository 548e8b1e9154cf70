-- The items that pass a test, where these are the last ones of a list.
use Rattle.std.proofs.Common.{◌≡◌, refl, ap, sym, ◌∙◌, ℕ, ◌+◌, ◌≤◌, List, [], ◌∷◌, ◌++◌, length, take, drop, Bool, true, arith, length-append, length-drop}
use Rattle.std.specs.List.{filter, list_all}
use Rattle.std.proofs.lemmas.List.{take-append-drop}
use Rattle.std.proofs.lemmas.List.Elements.{filter-append}

-- a list of no items is empty
pub none_left : {X : Type 0} (xs : List X) → length xs ≡ 0 → xs ≡ []
none_left [] none = refl
none_left (x ∷ xs) none = grind arith

module _ {X : Type 0} (p : X → Bool) where
  -- where all pass, all are left
  filter_all : (xs : List X) → list_all p xs ≡ true → filter p xs ≡ xs
  filter_all [] all = refl
  filter_all (x ∷ xs) all = grind (arith, filter_all xs)

  -- no more pass than there are
  pub passing : (xs : List X) → length (filter p xs) ≤ length xs
  passing [] = omega arith
  passing (x ∷ xs) = grind (arith, passing xs)

  -- where the only one passes it is left
  pub sole : (xs : List X) → length xs ≡ 1 → length (filter p xs) ≡ 1 → xs ≡ filter p xs
  sole [] one left = refl
  sole (x ∷ []) one left = grind arith
  sole (x ∷ y ∷ xs) one left = absurd (omega (arith, one))

  -- as many as pass stand at the end, and all of those pass: they are the ones
  pub trailing : (xs : List X) (at : ℕ) → at + length (filter p xs) ≡ length xs → list_all p (drop at xs) ≡ true
      → drop at xs ≡ filter p xs
  trailing xs at count all =
      let whole : filter p (take at xs) ++ drop at xs ≡ filter p xs =
      ap (λ ys. filter p (take at xs) ++ ys) (sym (filter_all (drop at xs) all))
      ∙ sym (filter-append p (take at xs) (drop at xs)) ∙ ap (filter p) (take-append-drop at xs) in
      let lengths : length (filter p (take at xs)) + length (drop at xs) ≡ length (filter p xs) =
      sym (length-append (filter p (take at xs)) (drop at xs)) ∙ ap length whole in
      let none : length (filter p (take at xs)) ≡ 0 = omega (arith, lengths, count, length-drop at xs) in
      rw (none_left (filter p (take at xs)) none) at whole
