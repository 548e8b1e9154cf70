-- In a list in output order each key has as many earlier ones as stand before it.
use Rattle.std.proofs.Common.{◌≡◌, ℕ, suc, zero, ◌+◌, ◌<◌, ◌≤◌, ◌==◌, Bool, true, false, cond, List, [], ◌∷◌, length, get_or, refl, sym, ap, ◌∙◌, arith, IsPermutation}
use Rattle.std.proofs.lemmas.Bool.{true≢false, false≢true}
use Rattle.std.proofs.lemmas.Cmp.{nat_cmp_total, int_cmp_total, on_total, then_total}
use Rattle.std.proofs.lemmas.List.Sorted.{ranks_by, sorted_far, sum_by-IsPermutation}
use Rattle.std.proofs.lemmas.List.Sums.{sum_by-cons}
use Rattle.std.proofs.lemmas.Map.Keys.{apart_from_distinct}
use Rattle.std.specs.Cmp.{IsTotalOrder, unsigned_tied}
use Rattle.std.specs.List.{IsDistinct, count_by}
use Rattle.std.specs.List.Sorted.{IsSortedBy}
use Rattle.std.specs.Ordering.{nat_cmp, int_cmp, is_lt, is_eq, ordering_then, ordering_reverse}
use Rattle.std.specs.declared.cmp.Ordering.{Ordering}
use Rattle.std.specs.declared.cmp.Ordering.TheVariants.{Less, Equal, Greater}
use Rattle.output_order.specs.declared.positions_by_key.Key.{Key}
use Rattle.output_order.specs.OutputOrder.{is_earlier}

abbrev pub has_same_place : Key → Key → Bool
has_same_place one other = one.place == other.place

abbrev key_order : Key → Key → Ordering
key_order one other = ordering_then (nat_cmp one.period other.period)
    (ordering_then (int_cmp one.order other.order) (nat_cmp one.place other.place))

key_order_total : IsTotalOrder key_order
key_order_total = then_total (on_total (λ key. key.period) nat_cmp_total)
    (then_total (on_total (λ key. key.order) int_cmp_total) (on_total (λ key. key.place) nat_cmp_total))

last_ties : (one two three : Ordering) → ordering_then one (ordering_then two three) ≡ Equal → is_eq three ≡ true
last_ties Less two three is = absurd (false≢true (ap is_eq is))
last_ties Equal Less three is = absurd (false≢true (ap is_eq is))
last_ties Equal Equal three is = ap is_eq is
last_ties Equal Greater three is = absurd (false≢true (ap is_eq is))
last_ties Greater two three is = absurd (false≢true (ap is_eq is))

-- of two keys with two places one is earlier
earlier_or : (one other : Key) → is_earlier other one ≡ false → has_same_place one other ≡ false → is_earlier one other ≡ true
earlier_or one other not_back apart = by (key_order one other) refl
  where
    by : (r : Ordering) → key_order one other ≡ r → is_lt r ≡ true
    by Less is = refl
    by Equal is =
        let tie = last_ties (nat_cmp one.period other.period) (int_cmp one.order other.order) (nat_cmp one.place other.place) is in
        absurd (true≢false (sym tie ∙ unsigned_tied one.place other.place ∙ apart))
    by Greater is = absurd (true≢false (sym (ap is_lt (key_order_total.antisymm other one ∙ ap ordering_reverse is)) ∙ not_back))

-- the first elements of a list pass a test, and no other does
count_by-first : {X : Type 0} (p : X → Bool) (xs : List X) (count : ℕ) (d : X) → count ≤ length xs
    → ((at : ℕ) → at < count → p (get_or xs at d) ≡ true) → ((at : ℕ) → count ≤ at → at < length xs → p (get_or xs at d) ≡ false)
    → count_by p xs ≡ count
count_by-first p [] zero d within passes fails = refl
count_by-first p [] (suc count) d within passes fails = absurd (omega arith)
count_by-first p (x ∷ xs) zero d within passes fails =
    let rest = count_by-first p xs 0 d (omega arith) (λ at below. absurd (omega arith)) (λ at from below. fails (suc at) (omega arith) (omega arith)) in
    sum_by-cons (λ y. cond (p y) 1 0) x xs ∙ ap (λ b. cond b 1 0 + count_by p xs) (fails 0 (omega arith) (omega arith)) ∙ omega (arith, rest)
count_by-first p (x ∷ xs) (suc count) d within passes fails =
    let rest = count_by-first p xs count d (omega arith) (λ at below. passes (suc at) (omega arith)) (λ at from below. fails (suc at) (omega arith) (omega arith)) in
    sum_by-cons (λ y. cond (p y) 1 0) x xs ∙ ap (λ b. cond b 1 0 + count_by p xs) (passes 0 (omega arith)) ∙ omega (arith, rest)

module _ (keys sorted : List Key) (same : IsPermutation keys sorted)
    (ascending : IsSortedBy is_earlier sorted) (apart : IsDistinct has_same_place sorted) where
  pub position_in_order : (at : ℕ) (d : Key) → at < length sorted → count_by (λ other. is_earlier other (get_or sorted at d)) keys ≡ at
  position_in_order at d here =
      let key = get_or sorted at d in
      let far = sorted_far is_earlier (ranks_by key_order_total (λ one. one)) sorted ascending in
      sym (sum_by-IsPermutation (λ other. cond (is_earlier other key) 1 0) keys sorted same)
      ∙ count_by-first (λ other. is_earlier other key) sorted at d (omega arith)
      (λ before below. earlier_or (get_or sorted before d) key (far before at d (omega arith) here) (apart_from_distinct has_same_place sorted before at d apart below here))
      (λ after from below. far at after d from below)
