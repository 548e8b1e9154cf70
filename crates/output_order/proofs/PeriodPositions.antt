-- The position of a unit, by the units before its period, those of its period and those after it.
use Rattle.std.proofs.Common.{◌≡◌, ℕ, suc, ◌+◌, ◌<◌, ◌≤◌, ◌==◌, Bool, true, false, cond, ltb, eqb, Option, Some, None, option_map, List, [], ◌∷◌, ◌++◌, length, map, take, get_or, All, refl, sym, ap, ◌∙◌, arith}
use Rattle.std.proofs.lemmas.Bool.{lt-ltb, le-ltb, ne_eqb, eq-eqb}
use Rattle.std.proofs.lemmas.Bool.Decides.{nat_tests}
use Rattle.std.proofs.lemmas.Cmp.{nat_cmp_total, tied_itself}
use Rattle.std.proofs.lemmas.List.{length-append, length-map, get_or_append_left, get_or-append-add, take-map, take-append-le}
use Rattle.std.proofs.lemmas.List.Elements.{All-nil, All-weaker, All-take}
use Rattle.std.proofs.lemmas.List.Sums.{sum_by-append}
use Rattle.std.specs.List.{count_by}
use Rattle.std.specs.Ordering.{nat_cmp}
use Rattle.std.specs.declared.cmp.Ordering.TheVariants.{Equal}
use Rattle.unit_outcomes.specs.declared.outcome.Outcome.{Outcome}
use Rattle.output_order.specs.declared.positions_by_key.Key.{Key}
use Rattle.output_order.specs.OutputOrder as order
use Rattle.output_order.specs.declared.shown.Shown.{Shown}
use Rattle.output_order.specs.declared.order_key.OrderKey.{OrderKey}
use Rattle.output_order.specs.Shown.{shown_of, begins_period}
use Rattle.output_order.specs.OrderKeys.{is_first, order_keys}
use Rattle.output_order.specs.Periods.{valid_in, IsPeriod, IsBegun}
use Rattle.output_order.specs.Bounds.{period_size}
use Rattle.output_order.proofs.Counts.{count_all, count_none, count_through}
use Rattle.output_order.proofs.OrderedKeys.{length-order_keys}
use Rattle.output_order.proofs.StreamKeys.{begun, keys_from, same_keys, keys_from-append, length-keys_from, periods_upto, periods_after, placed, begun-period, keys_of_period, keys_are, begun-shown, shown_order, order_at}

-- keys of two periods, and two of one
earlier_period : (one other : Key) → one.period < other.period → order.is_earlier one other ≡ true
earlier_period one other less = let first : ltb one.period other.period ≡ true = lt-ltb one.period other.period less in rw first refl

later_period : (one other : Key) → other.period < one.period → order.is_earlier one other ≡ false
later_period one other more =
    let first : ltb one.period other.period ≡ false = le-ltb one.period other.period (omega arith) in
    let same : eqb one.period other.period ≡ false = ne_eqb one.period other.period (λ is. omega arith) in
    rw (first, same) refl

nat_cmp-add : (start one other : ℕ) → nat_cmp (start + one) (start + other) ≡ nat_cmp one other
nat_cmp-add start one other =
    let less : ltb (start + one) (start + other) ≡ ltb one other = grind (arith, nat_tests) in
    let same : eqb (start + one) (start + other) ≡ eqb one other = grind (arith, nat_tests) in
    rw (less, same) refl

same_period : (period start : ℕ) (one other : OrderKey) → order.is_earlier (placed period start one) (placed period start other) ≡ is_first one other
same_period period start one other =
    let tied : nat_cmp period period ≡ Equal = tied_itself nat_cmp_total period in
    let places = nat_cmp-add start one.offset other.offset in
    rw (tied, places) refl

-- a period that begins with its first unit is one more
begun_one : (units : List (Option Shown)) → IsPeriod units → IsBegun units → begun units ≡ 1
begun_one [] is begins = absurd is
begun_one (first ∷ rest) is begins = begun-period first rest is ∙ ap (λ b. cond b 1 0) begins

begun_front : (units : List (Option Shown)) (offset : ℕ) → IsPeriod units → begun (take (suc offset) units) ≡ begun units
begun_front [] offset is = absurd is
begun_front (first ∷ rest) offset is =
    begun-period first (take offset rest) (All-take (λ unit. begins_period unit ≡ false) offset rest is) ∙ sym (begun-period first rest is)

periods_before : (front mid : List (Option Shown)) → IsPeriod mid → (0 < length front → IsBegun mid)
    → All (λ key. key.period < begun front + begun mid) (keys_from 0 0 front)
periods_before [] mid is begins = All-nil (λ key. key.period < begun [] + begun mid)
periods_before (first ∷ rest) mid is begins =
    let one = begun_one mid is (begins (omega arith)) in
    All-weaker (λ key. key.period ≤ 0 + begun (first ∷ rest)) (λ key. key.period < begun (first ∷ rest) + begun mid) (λ key upto. omega (arith, one)) _ (periods_upto 0 0 (first ∷ rest))

pub take_past : (xs ys : List (Option Shown)) (n : ℕ) → take (length xs + n) (xs ++ ys) ≡ xs ++ take n ys
take_past [] ys n = let same : 0 + n ≡ n = omega arith in ap (λ m. take m ys) same
take_past (x ∷ xs) ys n =
    let next : suc (length xs) + n ≡ suc (length xs + n) = omega arith in
    ap (λ m. take m (x ∷ (xs ++ ys))) next ∙ ap (λ rest. x ∷ rest) (take_past xs ys n)

module _ (outcomes : List Outcome) (front mid back : List (Option Shown)) (is : map shown_of outcomes ≡ front ++ mid ++ back)
    (period : IsPeriod mid) (begins_mid : 0 < length front → IsBegun mid) (begins_back : IsBegun back) where
  abbrev number : ℕ
  number = begun front + begun mid

  abbrev start : ℕ
  start = length front

  abbrev keys_before : List Key
  keys_before = keys_from 0 0 front

  abbrev keys_within : List Key
  keys_within = map (placed number start) (order_keys mid)

  abbrev keys_after : List Key
  keys_after = keys_from (0 + begun (front ++ mid)) (0 + length (front ++ mid)) back

  keys_parts : order.keys outcomes ≡ keys_before ++ keys_within ++ keys_after
  keys_parts =
      let within = same_keys (0 + begun front) (begun front) (0 + start) start mid (omega arith) (omega arith) ∙ keys_of_period (begun front) start mid period in
      keys_are outcomes ∙ ap (keys_from 0 0) is ∙ keys_from-append 0 0 (front ++ mid) back
      ∙ ap (λ keys. keys ++ keys_after) (keys_from-append 0 0 front mid ∙ ap (λ keys. keys_before ++ keys) within)

  count_parts : (p : Key → Bool) → count_by p (order.keys outcomes) ≡ count_by p keys_before + count_by p keys_within + count_by p keys_after
  count_parts p = ap (count_by p) keys_parts ∙ sum_by-append (λ key. cond (p key) 1 0) (keys_before ++ keys_within) keys_after
      ∙ ap (λ n. n + count_by p keys_after) (sum_by-append (λ key. cond (p key) 1 0) keys_before keys_within)

  periods_behind : All (λ key. number < key.period) keys_after
  periods_behind =
      let all : begun (front ++ mid) ≡ number = sum_by-append (λ unit. cond (begins_period unit) 1 0) front mid in
      All-weaker (λ key. 0 + begun (front ++ mid) < key.period) (λ key. number < key.period) (λ key more. omega (arith, all)) _
      (periods_after (0 + begun (front ++ mid)) (0 + length (front ++ mid)) back begins_back)

  module _ (offset : ℕ) (within : offset < length mid) where
    abbrev place : ℕ
    place = start + offset

    inner : place < length (front ++ mid)
    inner = omega (arith, length-append front mid)

    place_within : place < length outcomes
    place_within =
        let all : length (map shown_of outcomes) ≡ length (front ++ mid ++ back) = ap length is in
        omega (arith, all, length-map outcomes shown_of, length-append (front ++ mid) back, inner)

    unit_is : get_or (map shown_of outcomes) place None ≡ get_or mid offset None
    unit_is = ap (λ units. get_or units place None) is ∙ get_or_append_left (front ++ mid) back None place inner ∙ get_or-append-add front mid offset None

    period_is : order.period_at outcomes place ≡ number
    period_is =
        let next : place + 1 ≡ start + suc offset = omega arith in
        sym (begun-shown (take (place + 1) outcomes)) ∙ ap begun (sym (take-map shown_of (place + 1) outcomes)) ∙ ap (λ units. begun (take (place + 1) units)) is
        ∙ ap begun (take-append-le (place + 1) (front ++ mid) back (omega (arith, inner)))
        ∙ ap (λ n. begun (take n (front ++ mid))) next ∙ ap begun (take_past front mid (suc offset))
        ∙ sum_by-append (λ unit. cond (begins_period unit) 1 0) front (take (suc offset) mid) ∙ ap (λ n. begun front + n) (begun_front mid offset period)

    key_is : (unit : Option Shown) → get_or mid offset None ≡ unit
        → order.key_at outcomes place ≡ option_map (λ shown. placed number start (record { order = shown.order; offset = offset })) unit
    key_is unit at =
        let read = order_at outcomes place None place_within ∙ ap shown_order (unit_is ∙ at) in
        ap (option_map (λ one. let key : Key = record { period = order.period_at outcomes place; order = one; place = place } in key)) read
        ∙ ap (λ p. option_map (λ one. let key : Key = record { period = p; order = one; place = place } in key) (shown_order unit)) period_is
        ∙ by_unit unit
      where
        by_unit : (unit : Option Shown) → option_map (λ one. let key : Key = record { period = number; order = one; place = place } in key) (shown_order unit)
            ≡ option_map (λ shown. placed number start (record { order = shown.order; offset = offset })) unit
        by_unit None = refl
        by_unit (Some shown) = refl

    count_is : (key : OrderKey) → count_by (λ other. order.is_earlier other (placed number start key)) (order.keys outcomes) ≡ valid_in front + count_by (λ other. is_first other key) (order_keys mid)
    count_is key =
        let p : Key → Bool = λ other. order.is_earlier other (placed number start key) in
        let before : count_by p keys_before ≡ valid_in front = count_all p keys_before
        (All-weaker (λ other. other.period < number) (λ other. p other ≡ true) (λ other less. earlier_period other (placed number start key) less) keys_before (periods_before front mid period begins_mid))
        ∙ length-keys_from 0 0 front in
        let here : count_by p keys_within ≡ count_by (λ other. is_first other key) (order_keys mid) =
        count_through p (λ other. is_first other key) (placed number start) (λ other. same_period number start other key) (order_keys mid) in
        let after : count_by p keys_after ≡ 0 = count_none p keys_after
        (All-weaker (λ other. number < other.period) (λ other. p other ≡ false) (λ other more. later_period other (placed number start key) more) keys_after periods_behind) in
        count_parts p ∙ omega (arith, before, here, after)

    pub position_is : (unit : Option Shown) → get_or mid offset None ≡ unit
        → order.position_at outcomes place ≡ option_map (λ shown. valid_in front + count_by (λ other. is_first other (record { order = shown.order; offset = offset })) (order_keys mid)) unit
    position_is None at = ap (option_map (λ key. count_by (λ other. order.is_earlier other key) (order.keys outcomes))) (key_is None at)
    position_is (Some shown) at =
        ap (option_map (λ key. count_by (λ other. order.is_earlier other key) (order.keys outcomes))) (key_is (Some shown) at)
        ∙ ap Some (count_is (record { order = shown.order; offset = offset }))

    pub size_is : valid_in mid ≡ period_size outcomes place
    size_is =
        let p : Key → Bool = λ key. key.period == order.period_at outcomes place in
        let here : count_by p keys_within ≡ valid_in mid =
        count_through p (λ _. true) (placed number start) (λ key. eq-eqb number (order.period_at outcomes place) (sym period_is)) (order_keys mid)
        ∙ count_all (λ _. true) (order_keys mid) (λ k d below. refl) ∙ length-order_keys 0 mid in
        let before : count_by p keys_before ≡ 0 = count_none p keys_before
        (All-weaker (λ key. key.period < number) (λ key. p key ≡ false)
        (λ key less. ne_eqb key.period (order.period_at outcomes place) (λ same. omega (arith, same, period_is, less))) keys_before
        (periods_before front mid period begins_mid)) in
        let after : count_by p keys_after ≡ 0 = count_none p keys_after
        (All-weaker (λ key. number < key.period) (λ key. p key ≡ false)
        (λ key more. ne_eqb key.period (order.period_at outcomes place) (λ same. omega (arith, same, period_is, more))) keys_after periods_behind) in
        omega (arith, count_parts p, here, before, after)
