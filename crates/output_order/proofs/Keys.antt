-- The keys of the valid units, unit by unit.
use Rattle.std.proofs.Common.{◌≡◌, ℕ, ℤ, suc, zero, ◌+◌, ◌<◌, Bool, true, false, cond, Option, Some, None, option_map, List, [], ◌∷◌, ◌++◌, length, take, get_or, refl, sym, ap, ◌∙◌, arith}
use Rattle.std.proofs.lemmas.List.{append-nil}
use Rattle.std.proofs.lemmas.List.Elements.{filter_map-append}
use Rattle.std.proofs.lemmas.List.Sums.{sum_by_more}
use Rattle.std.proofs.lemmas.Option.{slice_get_read}
use Rattle.std.specs.List.{filter_map, cons_option, range_with_len, count_by}
use mir.Val.{bool_byte}
use Rattle.unit_outcomes.specs.declared.outcome.Plan.{Plan}
use Rattle.unit_outcomes.specs.declared.outcome.Outcome.{Outcome}
use Rattle.unit_outcomes.specs.declared.outcome.Outcome.TheVariants as outcomes
use Rattle.output_order.specs.declared.positions_by_key.Key.{Key}
use Rattle.output_order.specs.OutputOrder.{begins_period, order_of, period_at, key_at}

-- a unit that isn't valid has no order, and begins no period
pub order-without : (outcome : Outcome) → ((plan : Plan) → outcome ≡ outcomes.Plan plan → ⊥) → order_of outcome ≡ None
order-without (outcomes.Plan plan) not = absurd (not plan refl)
order-without (outcomes.Fault fault) not = refl
order-without outcomes.Empty not = refl

pub begins-without : (outcome : Outcome) → ((plan : Plan) → outcome ≡ outcomes.Plan plan → ⊥) → begins_period outcome ≡ false
begins-without (outcomes.Plan plan) not = absurd (not plan refl)
begins-without (outcomes.Fault fault) not = refl
begins-without outcomes.Empty not = refl

-- one number more
range_more : (first count last : ℕ) → first + count ≡ last → range_with_len first (count + 1) ≡ range_with_len first count ++ last ∷ []
range_more first zero last is = let same : first ≡ last = omega arith in ap (λ n. n ∷ []) same
range_more first (suc count) last is = let longer : suc count + 1 ≡ suc (count + 1) = omega arith in rw longer (ap (λ rest. first ∷ rest) (range_more (first + 1) count last (omega arith)))

-- the keys of the units before a place, and how many of these units begin a period
abbrev pub keys_before : List Outcome → ℕ → List Key
keys_before outcomes place = filter_map (key_at outcomes) (range_with_len 0 place)

abbrev pub begun_before : List Outcome → ℕ → ℕ
begun_before outcomes place = count_by begins_period (take place outcomes)

pub record AreKeysBefore (outcomes : List Outcome) (place period : ℕ) (keys : List Key) : Type 0 where
  pub periods : period ≡ begun_before outcomes place
  pub keys_are : keys ≡ keys_before outcomes place

module _ (outcomes : List Outcome) (place period : ℕ) (keys : List Key) (before : AreKeysBefore outcomes place period keys)
    (outcome : Outcome) (here : place < length outcomes) (read : outcome ≡ get_or outcomes place outcome) where
  begun_more : begun_before outcomes (place + 1) ≡ period + cond (begins_period outcome) 1 0
  begun_more = sum_by_more (λ one. cond (begins_period one) 1 0) outcomes place outcome here
      ∙ ap (λ one. begun_before outcomes place + cond (begins_period one) 1 0) (sym read)
      ∙ ap (λ count. count + cond (begins_period outcome) 1 0) (sym before.periods)

  key_here : (order : Option ℤ) → order_of outcome ≡ order
      → key_at outcomes place ≡ option_map (λ one. record { period = period_at outcomes place; order = one; place = place }) order
  key_here order is = rw (slice_get_read outcomes (length outcomes) place outcome refl here read, is) refl

  keys_more : keys_before outcomes (place + 1) ≡ keys ++ cons_option (key_at outcomes place) []
  keys_more = ap (filter_map (key_at outcomes)) (range_more 0 place place (omega arith))
      ∙ filter_map-append (key_at outcomes) (range_with_len 0 place) (place ∷ [])
      ∙ ap (λ found. found ++ cons_option (key_at outcomes place) []) (sym before.keys_are)

  -- a unit that isn't valid has no key
  pub AreKeysBefore-fault : order_of outcome ≡ None → begins_period outcome ≡ false → AreKeysBefore outcomes (place + 1) period keys
  AreKeysBefore-fault none begins_none = record {
    periods = sym (begun_more ∙ ap (λ begins. period + cond begins 1 0) begins_none ∙ omega arith);
    keys_are = sym (keys_more ∙ ap (λ key. keys ++ cons_option key []) (key_here None none) ∙ append-nil keys);
  }

  -- a valid unit has one, of the period that it may have begun
  pub AreKeysBefore-plan : (order : ℤ) (now : ℕ) → order_of outcome ≡ Some order → now ≡ period + cond (begins_period outcome) 1 0
      → AreKeysBefore outcomes (place + 1) now (keys ++ record { period = now; order = order; place = place } ∷ [])
  AreKeysBefore-plan order now valid is =
      let begun : now ≡ begun_before outcomes (place + 1) = is ∙ sym begun_more in
      record {
        periods = begun;
        keys_are = sym (keys_more ∙ ap (λ key. keys ++ cons_option key []) (key_here (Some order) valid)
            ∙ ap (λ count. keys ++ record { period = count; order = order; place = place } ∷ []) (sym begun));
      }

pub bool_is : (begins : Bool) → bool_byte begins ≡ cond begins 1 0
bool_is true = refl
bool_is false = refl
