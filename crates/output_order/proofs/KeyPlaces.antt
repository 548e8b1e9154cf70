-- The places of the keys: each key has its own, and each valid unit has a key there.
use Rattle.std.proofs.Common.{◌≡◌, ℕ, ℤ, suc, zero, ◌+◌, ◌<◌, ◌≤◌, ◌==◌, ◌||◌, ⊎_elim, true, false, Option, Some, None, option_map, option_and_then, List, length, slice_get, All, refl, sym, ap, ◌∙◌, arith}
use Rattle.std.proofs.Math.Bool.{or-true}
use Rattle.std.proofs.lemmas.Bool.{cases_lt}
use Rattle.std.proofs.lemmas.Bool.Decides.{nat_tests}
use Rattle.std.proofs.lemmas.List.Elements.{All-nil, All-cons, recursion_from_All}
use Rattle.std.proofs.lemmas.Map.Keys.{IsDistinct-cons}
use Rattle.std.proofs.lemmas.Option.{none-some, same_Some}
use Rattle.std.specs.List.{filter_map, cons_option, range_with_len, list_any, IsDistinct}
use Rattle.unit_outcomes.specs.declared.outcome.Outcome.{Outcome}
use Rattle.output_order.specs.declared.positions_by_key.Key.{Key}
use Rattle.output_order.specs.OutputOrder.{order_of, period_at, key_at, keys}
use Rattle.output_order.proofs.Ranks.{has_same_place}

-- keys in the places from a first one on, each of them found at its place
module _ (key_of : ℕ → Option Key) (stands : (place : ℕ) (key : Key) → key_of place ≡ Some key → key.place ≡ place) where
  abbrev found : ℕ → ℕ → List Key
  found first count = filter_map key_of (range_with_len first count)

  abbrev IsFound : ℕ → ℕ → Key → Type 0
  IsFound first count key = (first ≤ key.place) × (key.place < first + count) × (key_of key.place ≡ Some key)

  found_more : (first count : ℕ) (first_key : Option Key) → key_of first ≡ first_key → All (IsFound first (suc count)) (found (first + 1) count)
      → All (IsFound first (suc count)) (cons_option first_key (found (first + 1) count))
  found_more first count None is later = later
  found_more first count (Some key) is later =
      let here = stands first key is in
      All-cons (IsFound first (suc count)) key (found (first + 1) count) (omega (arith, here), omega (arith, here), ap key_of here ∙ is) later

  all_found : (first count : ℕ) → All (IsFound first count) (found first count)
  all_found first zero = All-nil (IsFound first 0)
  all_found first (suc count) = found_more first count (key_of first) refl
      (λ at d below. let one = all_found (first + 1) count at d below in (omega (arith, one.0), omega (arith, one.1), one.2))

  distinct_more : (first count : ℕ) (first_key : Option Key) → key_of first ≡ first_key → IsDistinct has_same_place (found (first + 1) count)
      → IsDistinct has_same_place (cons_option first_key (found (first + 1) count))
  distinct_more first count None is rest = rest
  distinct_more first count (Some key) is rest =
      let here = stands first key is in
      let apart : All (λ other. has_same_place key other ≡ false) (found (first + 1) count) =
      λ at d below. let later = (all_found (first + 1) count at d below).0 in grind (arith, nat_tests) in
      IsDistinct-cons has_same_place key (found (first + 1) count) (recursion_from_All (λ other. has_same_place key other ≡ false) (found (first + 1) count) apart) rest

  all_distinct : (first count : ℕ) → IsDistinct has_same_place (found first count)
  unfolding IsDistinct
  all_distinct first zero = tt
  all_distinct first (suc count) = distinct_more first count (key_of first) refl (all_distinct (first + 1) count)

  -- a key that is found at a place stands there
  there_more : (place : ℕ) (first_key : Option Key) (later : List Key) → list_any (λ key. key.place == place) later ≡ true
      → list_any (λ key. key.place == place) (cons_option first_key later) ≡ true
  there_more place None later there = there
  there_more place (Some first_key) later there = ap (λ b. (first_key.place == place) || b) there ∙ or-true (first_key.place == place)

  there : (first count place : ℕ) (key : Key) → key_of place ≡ Some key → first ≤ place → place < first + count
      → list_any (λ one. one.place == place) (found first count) ≡ true
  there first zero place key is from below = absurd (omega arith)
  there first (suc count) place key is from below =
      let stays : (key.place == place) ≡ true = let here = stands place key is in grind (arith, nat_tests) in
      ⊎_elim
      (λ later. there_more place (key_of first) (found (first + 1) count) (there (first + 1) count place key is (omega arith) (omega arith)))
      (λ upto. let same : first ≡ place = omega arith in rw (ap key_of same ∙ is) (ap (λ b. b || list_any (λ one. one.place == place) (found (first + 1) count)) stays))
      (cases_lt first place)

-- the key at a place has that place
option_place : (period place : ℕ) (order : Option ℤ) (key : Key)
    → option_map (λ one. record { period = period; order = one; place = place }) order ≡ Some key → key.place ≡ place
option_place period place None key is = absurd (none-some key is)
option_place period place (Some order) key is = ap (λ one. one.place) (sym (same_Some _ _ is))

key_at-place : (outcomes : List Outcome) (place : ℕ) (key : Key) → key_at outcomes place ≡ Some key → key.place ≡ place
key_at-place outcomes place key = option_place (period_at outcomes place) place (option_and_then order_of (slice_get outcomes place)) key

module _ (outcomes : List Outcome) where
  abbrev pub IsKeyOf : Key → Type 0
  IsKeyOf key = (key.place < length outcomes) × (key_at outcomes key.place ≡ Some key)

  pub keys_known : All IsKeyOf (keys outcomes)
  keys_known at d below = let one = all_found (key_at outcomes) (key_at-place outcomes) 0 (length outcomes) at d below in (omega (arith, one.1), one.2)

  pub keys_distinct : IsDistinct has_same_place (keys outcomes)
  keys_distinct = all_distinct (key_at outcomes) (key_at-place outcomes) 0 (length outcomes)

  pub keys_there : (place : ℕ) (key : Key) → place < length outcomes → key_at outcomes place ≡ Some key
      → list_any (λ one. one.place == place) (keys outcomes) ≡ true
  keys_there place key below is = there (key_at outcomes) (key_at-place outcomes) 0 (length outcomes) place key is (omega arith) (omega arith)
