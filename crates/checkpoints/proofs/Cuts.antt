-- A range taken out of the places and of the states.
use Rattle.std.proofs.Common.{◌≡◌, ℕ, zero, suc, ◌<◌, ◌≤◌, max, List, [], ◌∷◌, ◌++◌, take, drop, length, refl, ap, arith, inl, inr}
use Rattle.std.specs.List.{AllByRecursion, zip}
use Rattle.std.proofs.lemmas.List.{length-append, length-take, length-drop}
use Rattle.std.proofs.lemmas.Bool.{cases_lt, le-leb, lt-leb, lt-ltb, le-ltb}
use Rattle.checkpoints.specs.Places.{StartsAtZero, AreRising}
use Rattle.checkpoints.specs.Search.{places_up_to, places_below}
use Rattle.checkpoints.specs.Changes.{cut}
use Rattle.checkpoints.proofs.Fronts.{weaker, none_up_to, rest_up_to}

-- what holds of each element still does of those that are left
All-drop : {X : Type 0} (Q : X → Type 0) (n : ℕ) (xs : List X) → AllByRecursion Q xs → AllByRecursion Q (drop n xs)
All-drop Q zero xs all = all
All-drop Q (suc n) [] all = tt
All-drop Q (suc n) (x ∷ xs) all = All-drop Q n xs all.1

All-cut : {X : Type 0} (Q : X → Type 0) (a b : ℕ) (xs : List X) → a ≤ b → AllByRecursion Q xs → AllByRecursion Q (take a xs ++ drop b xs)
All-cut Q zero b xs le all = All-drop Q b xs all
All-cut Q (suc a) zero xs le all = absurd (omega arith)
All-cut Q (suc a) (suc b) [] le all = tt
All-cut Q (suc a) (suc b) (x ∷ xs) le all = (all.0, All-cut Q a b xs (omega arith) all.1)

rising_drop : (n : ℕ) (ps : List ℕ) → AreRising ps → AreRising (drop n ps)
rising_drop zero ps rising = rising
rising_drop (suc n) [] rising = tt
rising_drop (suc n) (p ∷ ps) rising = rising_drop n ps rising.1

pub rising_cut : (a b : ℕ) (ps : List ℕ) → a ≤ b → AreRising ps → AreRising (take a ps ++ drop b ps)
rising_cut zero b ps le rising = rising_drop b ps rising
rising_cut (suc a) zero ps le rising = absurd (omega arith)
rising_cut (suc a) (suc b) [] le rising = tt
rising_cut (suc a) (suc b) (p ∷ ps) le rising = (All-cut (λ o. p < o) a b ps (omega arith) rising.0, rising_cut a b ps (omega arith) rising.1)

pub starts_cut : (a b : ℕ) (ps : List ℕ) → StartsAtZero ps → StartsAtZero (take (suc a) ps ++ drop b ps)
starts_cut a b [] starts = absurd starts
starts_cut a b (p ∷ ps) starts = starts

-- as many are left of two lists of one length, and no more than there were
pub length_cut : {X Y : Type 0} (a b : ℕ) (xs : List X) (ys : List Y) → length ys ≡ length xs → length (take a ys ++ drop b ys) ≡ length (take a xs ++ drop b xs)
length_cut a b xs ys same =
    simp (length-append, length-take, length-drop) (rw same refl)

pub length_cut_le : {X : Type 0} (a b : ℕ) (xs : List X) → a ≤ b → length (take a xs ++ drop b xs) ≤ length xs
length_cut_le a b xs le = omega (arith, length-append (take a xs) (drop b xs), length-take a xs, length-drop b xs)

-- where each place is at or above `high`, none is below it
none_below : (ps : List ℕ) (high : ℕ) → AllByRecursion (λ o. high ≤ o) ps → places_below ps high ≡ 0
none_below [] high all = refl
none_below (q ∷ qs) high all = rw (le-ltb q high all.0) refl

module _ {S : Type 0} where
  pub cut_is : (ps : List ℕ) (ss : List S) (low high a b : ℕ) → AreRising ps → length ss ≡ length ps → places_up_to ps low ≡ a → max (places_below ps high) a ≡ b → cut low high (zip ps ss) ≡ zip (take a ps ++ drop b ps) (take a ss ++ drop b ss)
  cut_is [] ss low high zero zero rising same up below = refl
  cut_is [] ss low high zero (suc b) rising same up below = absurd (omega arith)
  cut_is [] ss low high (suc a) b rising same up below = absurd (omega arith)
  cut_is (q ∷ qs) [] low high a b rising same up below = absurd (omega arith)
  cut_is (q ∷ qs) (s ∷ ss) low high zero zero rising same up below = elim (cases_lt low q) [
    | inl above ↦ elim (cases_lt q high) [
      | inl lower ↦ let below' = rw (lt-ltb q high lower) at below in absurd (omega (arith, below'))
      | inr upper ↦
          let none = none_up_to qs low (weaker (λ o. q < o) (λ o. low < o) (λ o h. omega (arith, h)) qs rising.0) in
          let none' = none_below qs high (weaker (λ o. q < o) (λ o. high ≤ o) (λ o h. omega (arith, h)) qs rising.0) in
          rw (lt-leb q low above, le-leb high q upper)
          (ap (λ l. (q, s) ∷ l) (cut_is qs ss low high zero zero rising.1 (omega arith) none (omega (arith, none'))))
    ]
    | inr le ↦ let up' = rw (le-leb q low le) at up in absurd (omega (arith, up'))
  ]
  cut_is (q ∷ qs) (s ∷ ss) low high zero (suc b) rising same up below = elim (cases_lt low q) [
    | inl above ↦ elim (cases_lt q high) [
      | inl lower ↦
          let below' = rw (lt-ltb q high lower) at below in
          let none = none_up_to qs low (weaker (λ o. q < o) (λ o. low < o) (λ o h. omega (arith, h)) qs rising.0) in
          rw (lt-leb q low above, lt-leb high q lower)
          (cut_is qs ss low high zero b rising.1 (omega arith) none (omega (arith, below')))
      | inr upper ↦ let below' = rw (le-ltb q high upper) at below in absurd (omega (arith, below'))
    ]
    | inr le ↦ let up' = rw (le-leb q low le) at up in absurd (omega (arith, up'))
  ]
  cut_is (q ∷ qs) (s ∷ ss) low high (suc a) zero rising same up below = absurd (omega arith)
  cut_is (q ∷ qs) (s ∷ ss) low high (suc a) (suc b) rising same up below =
      let rest = rest_up_to q qs low a up in
      let on : max (places_below qs high) a ≡ b = elim (cases_lt q high) [
        | inl lower ↦ let below' = rw (lt-ltb q high lower) at below in omega (arith, below')
        | inr upper ↦
            let below' = rw (le-ltb q high upper) at below in
            let none = none_below qs high (weaker (λ o. q < o) (λ o. high ≤ o) (λ o h. omega (arith, h)) qs rising.0) in
            omega (arith, below', none)
      ] in
      rw (le-leb q low rest.0)
      (ap (λ l. (q, s) ∷ l) (cut_is qs ss low high a b rising.1 (omega arith) rest.1 on))
