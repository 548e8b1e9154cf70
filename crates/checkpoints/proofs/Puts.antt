-- A state put at a place, in the list of places and in the list of states.
use Rattle.std.proofs.Common.{◌≡◌, ℕ, zero, suc, ◌<◌, List, [], ◌∷◌, length, set, get_or, refl, ap, sym, arith}
use Rattle.std.specs.List.{AllByRecursion, zip, insert}
use Rattle.std.specs.Ordering.{nat_cmp}
use Rattle.std.specs.BTreeMap.{insert_entry}
use Rattle.std.proofs.lemmas.Bool.{lt-ltb, le-ltb, eq-eqb, ne_eqb}
use Rattle.checkpoints.specs.Places.{StartsAtZero, AreRising}
use Rattle.checkpoints.specs.Search.{places_up_to}
use Rattle.checkpoints.proofs.Fronts.{all_above, rest_up_to}
use Rattle.checkpoints.proofs.Looks.{up_to_le, above_first}

-- what holds of each element still does with one more
All-insert : {X : Type 0} (Q : X → Type 0) (xs : List X) (i : ℕ) (x : X) → Q x → AllByRecursion Q xs → AllByRecursion Q (insert xs i x)
All-insert Q [] zero x one all = (one, tt)
All-insert Q [] (suc i) x one all = (one, tt)
All-insert Q (y ∷ ys) zero x one all = (one, all)
All-insert Q (y ∷ ys) (suc i) x one all = (all.0, All-insert Q ys i x one all.1)

-- a new place in its order
pub rising_insert : (ps : List ℕ) (p n : ℕ) → AreRising ps → places_up_to ps p ≡ n → AllByRecursion (λ o. o ≡ p → ⊥) ps → AreRising (insert ps n p)
rising_insert [] p zero rising is apart = (tt, tt)
rising_insert [] p (suc n) rising is apart = absurd (omega arith)
rising_insert (q ∷ qs) p zero rising is apart = (all_above (q ∷ qs) p rising is, rising)
rising_insert (q ∷ qs) p (suc n) rising is apart =
    let rest = rest_up_to q qs p n is in
    let less : q < p = omega (arith, rest.0, apart.0) in
    (All-insert (λ o. q < o) qs n p less rising.0, rising_insert qs p n rising.1 rest.1 apart.1)

pub starts_insert : (ps : List ℕ) (n p : ℕ) → StartsAtZero ps → StartsAtZero (insert ps (suc n) p)
starts_insert [] n p starts = absurd starts
starts_insert (q ∷ qs) n p starts = starts

module _ {S : Type 0} where
  pub put_there : (ps : List ℕ) (ss : List S) (p n d : ℕ) (s : S) → AreRising ps → length ss ≡ length ps → places_up_to ps p ≡ suc n → get_or ps n d ≡ p → insert_entry nat_cmp (zip ps ss) p s ≡ zip ps (set ss n s)
  put_there [] ss p n d s rising same is there = absurd (omega arith)
  put_there (q ∷ qs) [] p n d s rising same is there = absurd (omega arith)
  put_there (q ∷ qs) (t ∷ ss) p zero d s rising same is there =
      rw (le-ltb p q (omega (arith, there)), eq-eqb p q (sym there)) refl
  put_there (q ∷ qs) (t ∷ ss) p (suc n) d s rising same is there =
      let rest = rest_up_to q qs p (suc n) is in
      let within = up_to_le qs p (suc n) rest.1 in
      let found : q < get_or qs n d = above_first q qs n d rising (omega (arith, within)) in
      rw (le-ltb p q rest.0, ne_eqb p q (λ h. omega (arith, h, found, there)))
      (ap (λ l. (q, t) ∷ l) (put_there qs ss p n d s rising.1 (omega arith) rest.1 there))

  pub put_new : (ps : List ℕ) (ss : List S) (p n : ℕ) (s : S) → AreRising ps → length ss ≡ length ps → places_up_to ps p ≡ n → AllByRecursion (λ o. o ≡ p → ⊥) ps → insert_entry nat_cmp (zip ps ss) p s ≡ zip (insert ps n p) (insert ss n s)
  put_new [] [] p zero s rising same is apart = refl
  put_new [] (t ∷ ss) p n s rising same is apart = absurd (omega arith)
  put_new [] [] p (suc n) s rising same is apart = absurd (omega arith)
  put_new (q ∷ qs) [] p n s rising same is apart = absurd (omega arith)
  put_new (q ∷ qs) (t ∷ ss) p zero s rising same is apart =
      let above = all_above (q ∷ qs) p rising is in rw (lt-ltb p q above.0) refl
  put_new (q ∷ qs) (t ∷ ss) p (suc n) s rising same is apart =
      let rest = rest_up_to q qs p n is in
      rw (le-ltb p q rest.0, ne_eqb p q (λ h. apart.0 (sym h)))
      (ap (λ l. (q, t) ∷ l) (put_new qs ss p n s rising.1 (omega arith) rest.1 apart.1))
