-- Places that move by a change of length.
use Rattle.std.proofs.Common.{◌≡◌, ℕ, suc, ◌<◌, ◌≤◌, List, [], ◌∷◌, length, get_or, map, All, Contains, refl, ap, subst, arith, inl, inr}
use Rattle.std.specs.List.{AllByRecursion, zip}
use Rattle.std.proofs.lemmas.Bool.{cases_lt, lt-ltb, le-ltb}
use Rattle.std.proofs.lemmas.List.{get_or_default}
use Rattle.checkpoints.specs.declared.shifting.LengthChange.{LengthChange}
use Rattle.checkpoints.specs.declared.shifting.LengthChange.TheVariants.{Longer, Shorter}
use Rattle.checkpoints.specs.Places.{StartsAtZero, AreRising}
use Rattle.checkpoints.specs.Changes.{moved, CanShift, IsMovable, shifted}

pub Contains_head : {X : Type 0} (x : X) (xs : List X) → Contains (x ∷ xs) x
Contains_head x xs = (0, omega arith, refl)

pub Contains_rest : {X : Type 0} (y : X) (xs : List X) (x : X) → Contains xs x → Contains (y ∷ xs) x
Contains_rest y xs x c = (suc c.0, omega (arith, c.1), c.2)

Contains_at : {X : Type 0} (xs : List X) (k : ℕ) (d : X) → k < length xs → Contains xs (get_or xs k d)
Contains_at xs k d within = (k, within, get_or_default xs k (get_or xs k d) d within)

pub Contains_zero : (ps : List ℕ) → StartsAtZero ps → Contains ps 0
Contains_zero [] starts = absurd starts
Contains_zero (p ∷ ps) starts = subst (Contains (p ∷ ps)) starts (Contains_head p ps)

-- a function that keeps the order of these places keeps them rising
above_map : (f : ℕ → ℕ) (q : ℕ) (qs : List ℕ) → AllByRecursion (λ o. q < o) qs → ((o : ℕ) → Contains qs o → q < o → f q < f o) → AllByRecursion (λ o. f q < o) (map f qs)
above_map f q [] above keeps = tt
above_map f q (r ∷ rs) above keeps =
    (keeps r (Contains_head r rs) above.0, above_map f q rs above.1 (λ o c. keeps o (Contains_rest r rs o c)))

rising_map : (f : ℕ → ℕ) (ps : List ℕ) → AreRising ps → ((p q : ℕ) → Contains ps p → Contains ps q → p < q → f p < f q) → AreRising (map f ps)
rising_map f [] rising keeps = tt
rising_map f (p ∷ ps) rising keeps = (
  above_map f p ps rising.0 (λ o c. keeps p o (Contains_head p ps) (Contains_rest p ps o c)),
  rising_map f ps rising.1 (λ o r co cr. keeps o r (Contains_rest p ps o co) (Contains_rest p ps r cr)),
)

pub moved_below : (from : ℕ) (change : LengthChange) (p q : ℕ) (ps : List ℕ) → 0 < from → StartsAtZero ps → CanShift from change ps → Contains ps p → Contains ps q → p < q → moved from change p < moved from change q
moved_below from (Longer by) p q ps positive starts can cp cq lt = elim (cases_lt p from) [
  | inl low ↦ elim (cases_lt q from) [
    | inl low' ↦ rw (lt-ltb p from low, lt-ltb q from low') lt
    | inr high' ↦ rw (lt-ltb p from low, le-ltb q from high') (omega arith)
  ]
  | inr high ↦ let high' : from ≤ q = omega arith in rw (le-ltb p from high, le-ltb q from high') (omega arith)
]
moved_below from (Shorter by) p q ps positive starts can cp cq lt = elim (cases_lt p from) [
  | inl low ↦ elim (cases_lt q from) [
    | inl low' ↦ rw (lt-ltb p from low, lt-ltb q from low') lt
    | inr high' ↦ let gap = can p q cp cq low high' in rw (lt-ltb p from low, le-ltb q from high') (omega (arith, gap))
  ]
  | inr high ↦
      let high' : from ≤ q = omega arith in
      let gap = can 0 p (Contains_zero ps starts) cp positive high in
      rw (le-ltb p from high, le-ltb q from high') (omega (arith, gap))
]

pub rising_moved : (from : ℕ) (change : LengthChange) (ps : List ℕ) → 0 < from → StartsAtZero ps → CanShift from change ps → AreRising ps → AreRising (map (moved from change) ps)
rising_moved from change ps positive starts can rising =
    rising_map (moved from change) ps rising (λ p q cp cq lt. moved_below from change p q ps positive starts can cp cq lt)

pub starts_moved : (from : ℕ) (change : LengthChange) (ps : List ℕ) → 0 < from → StartsAtZero ps → StartsAtZero (map (moved from change) ps)
starts_moved from change [] positive starts = absurd starts
starts_moved from change (p ∷ ps) positive starts = let low : p < from = omega (arith, starts) in rw (lt-ltb p from low) starts

pub all_movable : (from : ℕ) (change : LengthChange) (ps : List ℕ) → 0 < from → StartsAtZero ps → CanShift from change ps → All (IsMovable from change) ps
all_movable from (Longer by) ps positive starts can k d within = λ high. can (get_or ps k d) (Contains_at ps k d within) high
all_movable from (Shorter by) ps positive starts can k d within = λ high.
    let gap = can 0 (get_or ps k d) (Contains_zero ps starts) (Contains_at ps k d within) positive high in omega (arith, gap)

pub zip_moved : {S : Type 0} (from : ℕ) (change : LengthChange) (ps : List ℕ) (ss : List S) → zip (map (moved from change) ps) ss ≡ shifted from change (zip ps ss)
zip_moved from change [] ss = refl
zip_moved from change (p ∷ ps) [] = refl
zip_moved from change (p ∷ ps) (s ∷ ss) = ap (λ l. (moved from change p, s) ∷ l) (zip_moved from change ps ss)
