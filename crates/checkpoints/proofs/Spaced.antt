-- Places that are spaced, and places that are near.
use Rattle.std.proofs.Common.{◌≡◌, ◌↔◌, ℕ, ◌+◌, ◌-◌, ◌<◌, ◌≤◌, List, [], ◌∷◌, All, Contains, map, refl, subst, arith, inl, inr}
use Rattle.std.specs.List.{AllByRecursion}
use Rattle.std.proofs.lemmas.Bool.{cases_lt, lt-ltb, le-ltb}
use Rattle.std.proofs.lemmas.List.Elements.{All-from_recursion, recursion_from_All}
use Rattle.checkpoints.specs.declared.shifting.LengthChange.{LengthChange}
use Rattle.checkpoints.specs.declared.shifting.LengthChange.TheVariants.{Longer, Shorter}
use Rattle.checkpoints.specs.Places.{StartsAtZero, AreRising}
use Rattle.checkpoints.specs.Changes.{CanShift, changed, moved}
use Rattle.checkpoints.specs.Spacing.{AreSpaced, AreSpacedFrom, HasNear}
use Rattle.checkpoints.proofs.Shifts.{Contains_head, Contains_rest, Contains_zero}
use Rattle.checkpoints.proofs.Members.{Contains_cases, Contains_map, of_each}

near_from_spaced : (n p : ℕ) (ps : List ℕ) (end k : ℕ) → AreSpacedFrom n p ps end → p ≤ k → k < end → HasNear n (p ∷ ps) k
near_from_spaced n p [] end k spaced le lt = (p, Contains_head p [], le, omega (arith, spaced))
near_from_spaced n p (q ∷ qs) end k spaced le lt = elim (cases_lt k q) [
  | inl before ↦ (p, Contains_head p (q ∷ qs), le, omega (arith, spaced.0))
  | inr past ↦
      let near = near_from_spaced n q qs end k spaced.1 past lt in
      (near.0, Contains_rest p (q ∷ qs) near.0 near.1, near.2, near.3)
]

-- no place is near where the first is too far before it, and the others past it
too_far : (n p : ℕ) (ps : List ℕ) → AllByRecursion (λ o. p + n < o) ps → HasNear n (p ∷ ps) (p + n) → ⊥
too_far n p ps far near = elim (Contains_cases p ps near.0 near.1) [
  | inl same ↦ omega (arith, near.3, same)
  | inr rest ↦
      let past = of_each (λ o. p + n < o) ps near.0 (All-from_recursion (λ o. p + n < o) ps far) rest in
      omega (arith, near.2, past)
]

further : (a b : ℕ) (ps : List ℕ) → a ≤ b → AllByRecursion (λ o. b < o) ps → AllByRecursion (λ o. a < o) ps
further a b [] le all = tt
further a b (p ∷ ps) le all = (omega (arith, all.0), further a b ps le all.1)

spaced_from_near : (n p : ℕ) (ps : List ℕ) (end : ℕ) → AreRising (p ∷ ps) → AllByRecursion (λ o. o ≤ end) ps → ((k : ℕ) → p ≤ k → k < end → HasNear n (p ∷ ps) k) → AreSpacedFrom n p ps end
spaced_from_near n p [] end rising most near = elim (cases_lt (p + n) end) [
  | inl far ↦ absurd (too_far n p [] tt (near (p + n) (omega arith) far))
  | inr close ↦ close
]
spaced_from_near n p (q ∷ qs) end rising most near =
    let close : q ≤ p + n = elim (cases_lt (p + n) q) [
      | inl far ↦
          absurd (too_far n p (q ∷ qs) (far, further (p + n) q qs (omega (arith, far)) rising.1.0) (near (p + n) (omega arith) (omega (arith, far, most.0))))
      | inr close ↦ close
    ] in (
      close,
      spaced_from_near n q qs end rising.1 most.1 (λ k le lt.
          let at = near k (omega (arith, le, rising.0.0)) lt in
          elim (Contains_cases p (q ∷ qs) at.0 at.1) [
            | inl same ↦ (q, Contains_head q qs, le, omega (arith, at.3, same, rising.0.0))
            | inr rest ↦ (at.0, rest, at.2, at.3)
          ]),
    )

pub AreSpaced-near : (n end : ℕ) (ps : List ℕ) → StartsAtZero ps → AreRising ps → All (λ o. o ≤ end) ps → (AreSpaced n ps end ↔ ((k : ℕ) → k < end → HasNear n ps k))
AreSpaced-near n end [] starts rising most = absurd starts
AreSpaced-near n end (p ∷ ps) starts rising most =
    let most' = recursion_from_All (λ o. o ≤ end) (p ∷ ps) most in (
      λ spaced k lt. near_from_spaced n p ps end k spaced (omega (arith, starts)) lt,
      λ near. spaced_from_near n p ps end rising most'.1 (λ k le lt. near k lt),
    )

-- where neither moves
pub near_unmoved : (from : ℕ) (change : LengthChange) (ps : List ℕ) (n k : ℕ) → k < from → HasNear n ps k → HasNear n (map (moved from change) ps) k
near_unmoved from change ps n k below near =
    let low : near.0 < from = omega (arith, near.2) in
    let stays : moved from change near.0 ≡ near.0 = rw (lt-ltb near.0 from low) refl in
    (near.0, subst (Contains (map (moved from change) ps)) stays (Contains_map (moved from change) ps near.0 near.1), near.2, near.3)

-- where both move
pub near_moved : (from : ℕ) (change : LengthChange) (ps : List ℕ) (near n k : ℕ) → 0 < from → StartsAtZero ps → CanShift from change ps → Contains ps near → from ≤ near → near ≤ k → k < near + n → HasNear n (map (moved from change) ps) (changed change k)
near_moved from (Longer by) ps near n k positive starts can c high le lt =
    let moves : moved from (Longer by) near ≡ near + by = rw (le-ltb near from high) refl in
    (near + by, subst (Contains (map (moved from (Longer by)) ps)) moves (Contains_map (moved from (Longer by)) ps near c), omega arith, omega arith)
near_moved from (Shorter by) ps near n k positive starts can c high le lt =
    let moves : moved from (Shorter by) near ≡ near - by = rw (le-ltb near from high) refl in
    let gap = can 0 near (Contains_zero ps starts) c positive high in
    (near - by, subst (Contains (map (moved from (Shorter by)) ps)) moves (Contains_map (moved from (Shorter by)) ps near c), omega arith, omega (arith, gap))
