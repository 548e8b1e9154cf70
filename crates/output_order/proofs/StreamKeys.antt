-- The keys of a stream's valid units, from unit to unit, by what is shown of them.
use Rattle.std.proofs.Common.{◌≡◌, ℕ, ℤ, suc, zero, ◌+◌, ◌<◌, ◌≤◌, false, cond, Option, Some, None, is_some, option_map, option_and_then, List, [], ◌∷◌, ◌++◌, length, map, take, drop, get_or, slice_get, All, refl, sym, ap, ◌∙◌, arith}
use Rattle.std.proofs.lemmas.Bool.{false≢true}
use Rattle.std.proofs.lemmas.List.{get_or-drop, drop-drop, length-drop}
use Rattle.std.proofs.lemmas.List.Elements.{All-nil, All-cons, All-head, All-tail, All-weaker}
use Rattle.std.proofs.lemmas.List.Sums.{sum_by-cons, sum_by_more}
use Rattle.std.proofs.lemmas.Option.{slice_get_read}
use Rattle.std.specs.List.{filter_map, cons_option, range_with_len, count_by}
use Rattle.unit_outcomes.specs.declared.outcome.Outcome.{Outcome}
use Rattle.unit_outcomes.specs.declared.outcome.Outcome.TheVariants.{Plan, Fault, Empty}
use Rattle.output_order.specs.declared.positions_by_key.Key.{Key}
use Rattle.output_order.specs.OutputOrder as order
use Rattle.output_order.specs.declared.shown.Shown.{Shown}
use Rattle.output_order.specs.declared.order_key.OrderKey.{OrderKey}
use Rattle.output_order.specs.Shown.{shown_of, begins_period}
use Rattle.output_order.specs.OrderKeys.{order_keys_from, order_keys}
use Rattle.output_order.specs.Periods.{valid_in, IsPeriod, IsBegun}
use Rattle.output_order.proofs.Counts.{count_none}

-- how many units begin a period
abbrev pub begun : List (Option Shown) → ℕ
begun units = count_by begins_period units

abbrev pub period_of : ℕ → Shown → ℕ
period_of period shown = period + cond shown.begins_period 1 0

-- the keys of the valid units, of which the first stands at a place and before which so many
-- periods began
abbrev pub keys_from : ℕ → ℕ → List (Option Shown) → List Key
keys_from period place [] = []
keys_from period place (None ∷ units) = keys_from period (place + 1) units
keys_from period place (Some shown ∷ units) =
    record { period = period_of period shown; order = shown.order; place = place } ∷ keys_from (period_of period shown) (place + 1) units

begun-cons : (unit : Option Shown) (units : List (Option Shown)) → begun (unit ∷ units) ≡ cond (begins_period unit) 1 0 + begun units
begun-cons unit units = sum_by-cons (λ one. cond (begins_period one) 1 0) unit units

pub same_keys : (one other here there : ℕ) (units : List (Option Shown)) → one ≡ other → here ≡ there → keys_from one here units ≡ keys_from other there units
same_keys one other here there units is at = ap (λ period. keys_from period here units) is ∙ ap (λ place. keys_from other place units) at

pub keys_from-append : (period place : ℕ) (units more : List (Option Shown))
    → keys_from period place (units ++ more) ≡ keys_from period place units ++ keys_from (period + begun units) (place + length units) more
keys_from-append period place [] more = same_keys period (period + 0) place (place + 0) more (omega arith) (omega arith)
keys_from-append period place (None ∷ units) more =
    keys_from-append period (place + 1) units more
    ∙ ap (λ rest. keys_from period (place + 1) units ++ rest) (same_keys (period + begun units) (period + begun (None ∷ units)) (place + 1 + length units) (place + suc (length units)) more
    (omega (arith, begun-cons None units)) (omega arith))
keys_from-append period place (Some shown ∷ units) more =
    let now = period_of period shown in
    let key : Key = record { period = now; order = shown.order; place = place } in
    ap (λ rest. key ∷ rest) (keys_from-append now (place + 1) units more
    ∙ ap (λ rest. keys_from now (place + 1) units ++ rest) (same_keys (now + begun units) (period + begun (Some shown ∷ units)) (place + 1 + length units) (place + suc (length units)) more
    (omega (arith, begun-cons (Some shown) units)) (omega arith)))

-- there is one for each valid unit
pub length-keys_from : (period place : ℕ) (units : List (Option Shown)) → length (keys_from period place units) ≡ valid_in units
length-keys_from period place [] = refl
length-keys_from period place (None ∷ units) =
    let rest = length-keys_from period (place + 1) units in
    sym (sum_by-cons (λ unit. cond (is_some unit) 1 0) None units ∙ omega (arith, rest))
length-keys_from period place (Some shown ∷ units) =
    let rest = length-keys_from (period_of period shown) (place + 1) units in
    sym (sum_by-cons (λ unit. cond (is_some unit) 1 0) (Some shown) units ∙ omega (arith, rest))

-- their periods are those that begin before or among the units
pub periods_upto : (period place : ℕ) (units : List (Option Shown)) → All (λ key. key.period ≤ period + begun units) (keys_from period place units)
periods_upto period place [] = All-nil (λ key. key.period ≤ period + 0)
periods_upto period place (None ∷ units) =
    All-weaker (λ key. key.period ≤ period + begun units) (λ key. key.period ≤ period + begun (None ∷ units)) (λ key upto. omega (arith, begun-cons None units)) _ (periods_upto period (place + 1) units)
periods_upto period place (Some shown ∷ units) =
    let now = period_of period shown in
    let all = begun-cons (Some shown) units in
    All-cons (λ key. key.period ≤ period + begun (Some shown ∷ units)) _ _ (omega (arith, all))
    (All-weaker (λ key. key.period ≤ now + begun units) (λ key. key.period ≤ period + begun (Some shown ∷ units)) (λ key upto. omega (arith, all)) _ (periods_upto now (place + 1) units))

pub periods_from : (period place : ℕ) (units : List (Option Shown)) → All (λ key. period ≤ key.period) (keys_from period place units)
periods_from period place [] = All-nil (λ key. period ≤ key.period)
periods_from period place (None ∷ units) = periods_from period (place + 1) units
periods_from period place (Some shown ∷ units) =
    let now = period_of period shown in
    All-cons (λ key. period ≤ key.period) _ _ (omega arith)
    (All-weaker (λ key. now ≤ key.period) (λ key. period ≤ key.period) (λ key upto. omega arith) _ (periods_from now (place + 1) units))

-- after a period that begins with the first unit
pub periods_after : (period place : ℕ) (units : List (Option Shown)) → IsBegun units → All (λ key. period < key.period) (keys_from period place units)
periods_after period place [] begins = All-nil (λ key. period < key.period)
periods_after period place (None ∷ units) begins = absurd (false≢true begins)
periods_after period place (Some shown ∷ units) begins =
    let now = period_of period shown in
    let next : now ≡ period + 1 = ap (λ b. period + cond b 1 0) begins in
    All-cons (λ key. period < key.period) _ _ (omega (arith, next))
    (All-weaker (λ key. now ≤ key.period) (λ key. period < key.period) (λ key upto. omega (arith, next)) _ (periods_from now (place + 1) units))

-- a key of a period, among those of the stream
abbrev pub placed : ℕ → ℕ → OrderKey → Key
placed period start key = record { period = period; order = key.order; place = start + key.offset }

keys_inside : (period start offset : ℕ) (units : List (Option Shown)) → All (λ unit. begins_period unit ≡ false) units
    → keys_from period (start + offset) units ≡ map (placed period start) (order_keys_from offset units)
keys_inside period start offset [] none = refl
keys_inside period start offset (None ∷ units) none =
    same_keys period period (start + offset + 1) (start + (offset + 1)) units refl (omega arith)
    ∙ keys_inside period start (offset + 1) units (All-tail (λ unit. begins_period unit ≡ false) None units none)
keys_inside period start offset (Some shown ∷ units) none =
    let first = All-head (λ unit. begins_period unit ≡ false) (Some shown) units none in
    let same : period_of period shown ≡ period = ap (λ b. period + cond b 1 0) first ∙ omega arith in
    let rest = same_keys (period_of period shown) period (start + offset + 1) (start + (offset + 1)) units same (omega arith)
    ∙ keys_inside period start (offset + 1) units (All-tail (λ unit. begins_period unit ≡ false) (Some shown) units none) in
    let key : ℕ → Key = λ p. record { period = p; order = shown.order; place = start + offset } in
    ap (λ p. key p ∷ keys_from (period_of period shown) (start + offset + 1) units) same ∙ ap (λ more. key period ∷ more) rest

-- no unit of a period begins one but the first
pub begun-period : (first : Option Shown) (rest : List (Option Shown)) → All (λ unit. begins_period unit ≡ false) rest → begun (first ∷ rest) ≡ cond (begins_period first) 1 0
begun-period first rest none = begun-cons first rest ∙ omega (arith, count_none begins_period rest none)

-- the keys of the units of a period
pub keys_of_period : (period start : ℕ) (units : List (Option Shown)) → IsPeriod units
    → keys_from period start units ≡ map (placed (period + begun units) start) (order_keys units)
keys_of_period period start [] none = absurd none
keys_of_period period start (None ∷ rest) none =
    let same : period ≡ period + begun (None ∷ rest) = omega (arith, begun-period None rest none) in
    same_keys period (period + begun (None ∷ rest)) (start + 1) (start + (0 + 1)) rest same (omega arith)
    ∙ keys_inside (period + begun (None ∷ rest)) start (0 + 1) rest none
keys_of_period period start (Some shown ∷ rest) none =
    let now = period + begun (Some shown ∷ rest) in
    let same : period_of period shown ≡ now = omega (arith, begun-period (Some shown) rest none) in
    let later = same_keys (period_of period shown) now (start + 1) (start + (0 + 1)) rest same (omega arith) ∙ keys_inside now start (0 + 1) rest none in
    let here : start ≡ start + 0 = omega arith in
    let key : ℕ → ℕ → Key = λ p at. record { period = p; order = shown.order; place = at } in
    ap (λ p. key p start ∷ keys_from (period_of period shown) (start + 1) rest) same
    ∙ ap (λ at. key now at ∷ keys_from (period_of period shown) (start + 1) rest) here
    ∙ ap (λ more. key now (start + 0) ∷ more) later

-- what is shown of outcomes gives their keys
begins-shown : (outcome : Outcome) → begins_period (shown_of outcome) ≡ order.begins_period outcome
begins-shown (Plan plan) = refl
begins-shown (Fault fault) = refl
begins-shown Empty = refl

module _ (all : List Outcome) where
  abbrev before : ℕ → ℕ
  before place = count_by order.begins_period (take place all)

  module _ (place : ℕ) (outcome : Outcome) (rest : List Outcome) (is : drop place all ≡ outcome ∷ rest) where
    here : place < length all
    here = let left : length (drop place all) ≡ suc (length rest) = ap length is in omega (arith, left, length-drop place all)

    read : outcome ≡ get_or all place outcome
    read = sym (ap (λ at. get_or all at outcome) (let same : place ≡ place + 0 = omega arith in same) ∙ sym (get_or-drop place all 0 outcome) ∙ ap (λ left. get_or left 0 outcome) is)

    rest_is : drop (place + 1) all ≡ rest
    rest_is = sym (drop-drop 1 place all) ∙ ap (drop 1) is

    before_more : before (place + 1) ≡ before place + cond (order.begins_period outcome) 1 0
    before_more = sum_by_more (λ one. cond (order.begins_period one) 1 0) all place outcome here
        ∙ ap (λ one. before place + cond (order.begins_period one) 1 0) (sym read)

    key_here : (count : Option ℤ) → order.order_of outcome ≡ count
        → order.key_at all place ≡ option_map (λ one. let key : Key = record { period = before (place + 1); order = one; place = place } in key) count
    key_here count valid = rw (slice_get_read all (length all) place outcome refl here read, valid) refl

  keys_rest : (place period : ℕ) (rest : List Outcome) → drop place all ≡ rest → period ≡ before place
      → filter_map (order.key_at all) (range_with_len place (length rest)) ≡ keys_from period place (map shown_of rest)
  keys_rest place period [] is begins = refl
  keys_rest place period (Plan plan ∷ rest) is begins =
      let more = before_more place (Plan plan) rest is in
      let now : period + cond plan.begins_period 1 0 ≡ before (place + 1) = omega (arith, more, begins) in
      let key : ℕ → Key = λ p. record { period = p; order = plan.order; place = place } in
      ap (λ found. cons_option found (filter_map (order.key_at all) (range_with_len (place + 1) (length rest)))) (key_here place (Plan plan) rest is (Some plan.order) refl)
      ∙ ap (λ p. key p ∷ filter_map (order.key_at all) (range_with_len (place + 1) (length rest))) (sym now)
      ∙ ap (λ later. key (period + cond plan.begins_period 1 0) ∷ later) (keys_rest (place + 1) (period + cond plan.begins_period 1 0) rest (rest_is place (Plan plan) rest is) now)
  keys_rest place period (Fault fault ∷ rest) is begins =
      let more = before_more place (Fault fault) rest is in
      let now : period ≡ before (place + 1) = omega (arith, more, begins) in
      ap (λ found. cons_option found (filter_map (order.key_at all) (range_with_len (place + 1) (length rest)))) (key_here place (Fault fault) rest is None refl)
      ∙ keys_rest (place + 1) period rest (rest_is place (Fault fault) rest is) now
  keys_rest place period (Empty ∷ rest) is begins =
      let more = before_more place Empty rest is in
      let now : period ≡ before (place + 1) = omega (arith, more, begins) in
      ap (λ found. cons_option found (filter_map (order.key_at all) (range_with_len (place + 1) (length rest)))) (key_here place Empty rest is None refl)
      ∙ keys_rest (place + 1) period rest (rest_is place Empty rest is) now

  pub keys_are : order.keys all ≡ keys_from 0 0 (map shown_of all)
  keys_are = keys_rest 0 0 all refl refl

pub begun-shown : (outcomes : List Outcome) → begun (map shown_of outcomes) ≡ count_by order.begins_period outcomes
begun-shown [] = refl
begun-shown (outcome ∷ outcomes) = begun-cons (shown_of outcome) (map shown_of outcomes)
    ∙ ap (λ b. cond b 1 0 + begun (map shown_of outcomes)) (begins-shown outcome)
    ∙ ap (λ n. cond (order.begins_period outcome) 1 0 + n) (begun-shown outcomes)
    ∙ sym (sum_by-cons (λ one. cond (order.begins_period one) 1 0) outcome outcomes)

-- the picture order count of what is shown of a unit
abbrev pub shown_order : Option Shown → Option ℤ
shown_order unit = option_map (λ shown. shown.order) unit

order-shown : (outcome : Outcome) → order.order_of outcome ≡ shown_order (shown_of outcome)
order-shown (Plan plan) = refl
order-shown (Fault fault) = refl
order-shown Empty = refl

pub order_at : (outcomes : List Outcome) (place : ℕ) (d : Option Shown) → place < length outcomes
    → option_and_then order.order_of (slice_get outcomes place) ≡ shown_order (get_or (map shown_of outcomes) place d)
order_at [] place d within = absurd (omega arith)
order_at (outcome ∷ outcomes) zero d within = order-shown outcome
order_at (outcome ∷ outcomes) (suc place) d within = order_at outcomes place d (omega arith)
