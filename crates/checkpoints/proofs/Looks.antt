-- What look-ups in the order of places find.
use Rattle.std.proofs.Common.{◌≡◌, ℕ, zero, suc, ◌-◌, ◌<◌, ◌≤◌, List, [], ◌∷◌, length, get_or, All, Some, None, refl, sym, ◌∙◌, subst, arith}
use Rattle.std.specs.List.{AllByRecursion, zip}
use Rattle.std.specs.Map.{lookup}
use Rattle.std.proofs.lemmas.Bool.{eq-eqb, ne_eqb}
use Rattle.std.proofs.lemmas.List.Elements.{All-from_recursion, All-cons, All-weaker}
use Rattle.std.proofs.lemmas.List.Sums.{prefix_len-le-length}
use Rattle.std.proofs.lemmas.Map.Made.{keys_of-zip}
use Rattle.std.proofs.Common.{eqb, leb}
use Rattle.checkpoints.specs.Places.{StartsAtZero, AreRising}
use Rattle.checkpoints.specs.Search.{places_up_to}
use Rattle.checkpoints.specs.Stored.{IsInOrder, IsBefore, IsAfter, IsLast}
use Rattle.checkpoints.proofs.Fronts.{weaker, All-zip, all_above, first_up_to, rest_up_to}

pub up_to_le : (ps : List ℕ) (p n : ℕ) → places_up_to ps p ≡ n → n ≤ length ps
up_to_le ps p n is = omega (arith, prefix_len-le-length (λ o. leb o p) ps)

-- a place of the rest is above the first
pub above_first : (q : ℕ) (qs : List ℕ) (n d : ℕ) → AreRising (q ∷ qs) → n < length qs → q < get_or qs n d
above_first q qs n d rising within = All-from_recursion (λ o. q < o) qs rising.0 n d within

-- where each place at the front isn't above p, none is
none_after : (ps : List ℕ) (p : ℕ) → places_up_to ps p ≡ length ps → AllByRecursion (λ o. o ≤ p) ps
none_after [] p all = tt
none_after (q ∷ qs) p all = let rest = rest_up_to q qs p (length qs) all in (rest.0, none_after qs p rest.1)

-- there is a place
pub not_empty : (ps : List ℕ) → StartsAtZero ps → 0 < length ps
not_empty [] starts = absurd starts
not_empty (p ∷ ps) starts = omega arith

module _ {S : Type 0} where
  pub before_at : (ps : List ℕ) (ss : List S) (p n d : ℕ) (e : S) → AreRising ps → length ss ≡ length ps → places_up_to ps p ≡ suc n → IsBefore (zip ps ss) p (get_or ps n d) (get_or ss n e)
  before_at [] ss p n d e rising same is = absurd (omega arith)
  before_at (q ∷ qs) [] p n d e rising same is = absurd (omega arith)
  before_at (q ∷ qs) (s ∷ ss) p zero d e rising same is =
      let rest = rest_up_to q qs p zero is in
      let above = All-from_recursion (λ (f : ℕ × S). p < f.0) (zip qs ss) (All-zip (λ o. p < o) qs ss (all_above qs p rising.1 rest.1)) in
      record {
        stored = rw (eq-eqb q q refl) refl;
        not_above = rest.0;
        greatest = All-cons (λ (f : ℕ × S). f.0 ≤ p → f.0 ≤ q) (q, s) (zip qs ss) (λ le. omega arith)
            (All-weaker (λ (f : ℕ × S). p < f.0) (λ (f : ℕ × S). f.0 ≤ p → f.0 ≤ q) (λ f lt le. absurd (omega (arith, lt, le))) (zip qs ss) above);
      }
  before_at (q ∷ qs) (s ∷ ss) p (suc n) d e rising same is =
      let rest = rest_up_to q qs p (suc n) is in
      let within = up_to_le qs p (suc n) rest.1 in
      let found : q < get_or qs n d = above_first q qs n d rising (omega (arith, within)) in
      let ih = before_at qs ss p n d e rising.1 (omega arith) rest.1 in
      record {
        stored = rw (ne_eqb (get_or qs n d) q (λ h. omega (arith, h, found))) ih.stored;
        not_above = ih.not_above;
        greatest = All-cons (λ (f : ℕ × S). f.0 ≤ p → f.0 ≤ get_or qs n d) (q, s) (zip qs ss) (λ le. omega (arith, found)) ih.greatest;
      }

  pub after_at : (ps : List ℕ) (ss : List S) (p n d : ℕ) (e : S) → AreRising ps → length ss ≡ length ps → places_up_to ps p ≡ n → n < length ps → IsAfter (zip ps ss) p (get_or ps n d) (get_or ss n e)
  after_at [] ss p n d e rising same is within = absurd (omega arith)
  after_at (q ∷ qs) [] p n d e rising same is within = absurd (omega arith)
  after_at (q ∷ qs) (s ∷ ss) p zero d e rising same is within =
      let above = all_above (q ∷ qs) p rising is in
      let later = All-from_recursion (λ (f : ℕ × S). q < f.0) (zip qs ss) (All-zip (λ o. q < o) qs ss rising.0) in
      record {
        stored = rw (eq-eqb q q refl) refl;
        above = above.0;
        least = All-cons (λ (f : ℕ × S). p < f.0 → q ≤ f.0) (q, s) (zip qs ss) (λ lt. omega arith)
            (All-weaker (λ (f : ℕ × S). q < f.0) (λ (f : ℕ × S). p < f.0 → q ≤ f.0) (λ f lt _. omega (arith, lt)) (zip qs ss) later);
      }
  after_at (q ∷ qs) (s ∷ ss) p (suc n) d e rising same is within =
      let rest = rest_up_to q qs p n is in
      let found : q < get_or qs n d = above_first q qs n d rising (omega arith) in
      let ih = after_at qs ss p n d e rising.1 (omega arith) rest.1 (omega arith) in
      record {
        stored = rw (ne_eqb (get_or qs n d) q (λ h. omega (arith, h, found))) ih.stored;
        above = ih.above;
        least = All-cons (λ (f : ℕ × S). p < f.0 → get_or qs n d ≤ f.0) (q, s) (zip qs ss) (λ lt. absurd (omega (arith, lt, rest.0))) ih.least;
      }

  pub none_after_at : (ps : List ℕ) (ss : List S) (p : ℕ) → places_up_to ps p ≡ length ps → All (λ (f : ℕ × S). f.0 ≤ p) (zip ps ss)
  none_after_at ps ss p all = All-from_recursion (λ (f : ℕ × S). f.0 ≤ p) (zip ps ss) (All-zip (λ o. o ≤ p) ps ss (none_after ps p all))

  pub last_at : (ps : List ℕ) (ss : List S) (n d : ℕ) (e : S) → AreRising ps → length ss ≡ length ps → length ps ≡ suc n → IsLast (zip ps ss) (get_or ps n d) (get_or ss n e)
  last_at [] ss n d e rising same is = absurd (omega arith)
  last_at (q ∷ qs) [] n d e rising same is = absurd (omega arith)
  last_at (q ∷ []) (s ∷ ss) zero d e rising same is = record {
    stored = rw (eq-eqb q q refl) refl;
    greatest = All-from_recursion (λ (f : ℕ × S). f.0 ≤ q) ((q, s) ∷ []) (omega arith, tt);
  }
  last_at (q ∷ r ∷ qs) (s ∷ ss) zero d e rising same is = absurd (omega arith)
  last_at (q ∷ qs) (s ∷ ss) (suc n) d e rising same is =
      let found : q < get_or qs n d = above_first q qs n d rising (omega arith) in
      let ih = last_at qs ss n d e rising.1 (omega arith) (omega arith) in
      record {
        stored = rw (ne_eqb (get_or qs n d) q (λ h. omega (arith, h, found))) ih.stored;
        greatest = All-cons (λ (f : ℕ × S). f.0 ≤ get_or qs n d) (q, s) (zip qs ss) (omega (arith, found)) ih.greatest;
      }

  pub lookup_found : (ps : List ℕ) (ss : List S) (p n d : ℕ) (e : S) → AreRising ps → length ss ≡ length ps → places_up_to ps p ≡ suc n → get_or ps n d ≡ p → lookup (eqb p) (zip ps ss) ≡ Some (get_or ss n e)
  lookup_found ps ss p n d e rising same is there = subst (λ q. lookup (eqb q) (zip ps ss) ≡ Some (get_or ss n e)) there (before_at ps ss p n d e rising same is).stored

-- no place is p where the greatest that isn't above it is another
pub apart : (ps : List ℕ) (p n d : ℕ) → AreRising ps → places_up_to ps p ≡ suc n → (get_or ps n d ≡ p → ⊥) → AllByRecursion (λ o. o ≡ p → ⊥) ps
apart [] p n d rising is other = tt
apart (q ∷ qs) p zero d rising is other =
    let rest = rest_up_to q qs p zero is in
    (other, weaker (λ o. p < o) (λ o. o ≡ p → ⊥) (λ o lt h. omega (arith, lt, h)) qs (all_above qs p rising.1 rest.1))
apart (q ∷ qs) p (suc n) d rising is other =
    let rest = rest_up_to q qs p (suc n) is in
    let within = up_to_le qs p (suc n) rest.1 in
    let found : q < get_or qs n d = above_first q qs n d rising (omega (arith, within)) in
    let le : get_or qs n d ≤ p = (before_at qs qs p n d d rising.1 refl rest.1).not_above in
    ((λ h. omega (arith, h, found, le)), apart qs p n d rising.1 rest.1 other)

module _ {S : Type 0} where
  pub lookup_apart : (ps : List ℕ) (ss : List S) (p : ℕ) → AllByRecursion (λ o. o ≡ p → ⊥) ps → lookup (eqb p) (zip ps ss) ≡ None
  lookup_apart [] ss p all = refl
  lookup_apart (q ∷ qs) [] p all = refl
  lookup_apart (q ∷ qs) (s ∷ ss) p all = rw (ne_eqb p q (λ h. all.0 (sym h))) (lookup_apart qs ss p all.1)

  pub in_order : (ps : List ℕ) (ss : List S) → length ss ≡ length ps → StartsAtZero ps → AreRising ps → IsInOrder (zip ps ss)
  in_order ps ss same starts rising = record {
    first = rw (keys_of-zip ps ss same) starts;
    rising = rw (keys_of-zip ps ss same) rising;
  }

  -- the same of what the code reads at the place that a search answers
  pub before_is : (ps : List ℕ) (ss : List S) (p r found : ℕ) (state : S) → StartsAtZero ps → AreRising ps → length ss ≡ length ps → r ≡ places_up_to ps p → found ≡ get_or ps (r - 1) found → state ≡ get_or ss (r - 1) state → IsBefore (zip ps ss) p found state
  before_is ps ss p r found state starts rising same is at_found at_state =
      let first = first_up_to ps p starts in
      let last : r - 1 ≡ first.0 = omega (arith, is, first.1) in
      let f : get_or ps first.0 found ≡ found = sym (rw last at at_found) in
      let s : get_or ss first.0 state ≡ state = sym (rw last at at_state) in
      let b = before_at ps ss p first.0 found state rising same first.1 in
      subst (λ x. IsBefore (zip ps ss) p found x) s (subst (λ x. IsBefore (zip ps ss) p x (get_or ss first.0 state)) f b)

  pub after_is : (ps : List ℕ) (ss : List S) (p r found : ℕ) (state : S) → AreRising ps → length ss ≡ length ps → r ≡ places_up_to ps p → r < length ps → found ≡ get_or ps r found → state ≡ get_or ss r state → IsAfter (zip ps ss) p found state
  after_is ps ss p r found state rising same is within at_found at_state =
      let b = after_at ps ss p r found state rising same (sym is) within in
      subst (λ x. IsAfter (zip ps ss) p found x) (sym at_state) (subst (λ x. IsAfter (zip ps ss) p x (get_or ss r state)) (sym at_found) b)

  pub last_is : (ps : List ℕ) (ss : List S) (r found : ℕ) (state : S) → StartsAtZero ps → AreRising ps → length ss ≡ length ps → r ≡ length ps → found ≡ get_or ps (r - 1) found → state ≡ get_or ss (r - 1) state → IsLast (zip ps ss) found state
  last_is ps ss r found state starts rising same is at_found at_state =
      let some : 0 < length ps = not_empty ps starts in
      let n : length ps ≡ suc (r - 1) = omega arith in
      let b = last_at ps ss (r - 1) found state rising same n in
      subst (λ x. IsLast (zip ps ss) found x) (sym at_state) (subst (λ x. IsLast (zip ps ss) x (get_or ss (r - 1) state)) (sym at_found) b)

  pub get_some : (ps : List ℕ) (ss : List S) (p r found : ℕ) (state : S) → StartsAtZero ps → AreRising ps → length ss ≡ length ps → r ≡ places_up_to ps p → found ≡ get_or ps (r - 1) found → found ≡ p → state ≡ get_or ss (r - 1) state → lookup (eqb p) (zip ps ss) ≡ Some state
  get_some ps ss p r found state starts rising same is at_found there at_state =
      subst (λ q. lookup (eqb q) (zip ps ss) ≡ Some state) there (before_is ps ss p r found state starts rising same is at_found at_state).stored

-- where the greatest place that isn't above p is another, none is p
pub apart_is : (ps : List ℕ) (p r found : ℕ) → StartsAtZero ps → AreRising ps → r ≡ places_up_to ps p → found ≡ get_or ps (r - 1) found → (found ≡ p → ⊥) → AllByRecursion (λ o. o ≡ p → ⊥) ps
apart_is ps p r found starts rising is at_found other =
    let first = first_up_to ps p starts in
    let last : r - 1 ≡ first.0 = omega (arith, is, first.1) in
    let f : get_or ps first.0 found ≡ found = sym (rw last at at_found) in
    apart ps p first.0 found rising first.1 (λ h. other (sym f ∙ h))
