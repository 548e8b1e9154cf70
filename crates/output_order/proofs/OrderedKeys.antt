-- The keys of a period's valid units, unit by unit.
use Rattle.std.proofs.Common.{◌≡◌, ℕ, suc, ◌+◌, ◌<◌, cond, Option, Some, None, is_some, List, [], ◌∷◌, ◌++◌, length, take, get_or, refl, sym, ap, ◌∙◌, arith}
use Rattle.std.proofs.lemmas.List.{append-nil, take_more, length-take-le}
use Rattle.std.proofs.lemmas.List.Sums.{sum_by-cons}
use Rattle.output_order.specs.declared.shown.Shown.{Shown}
use Rattle.output_order.specs.declared.order_key.OrderKey.{OrderKey}
use Rattle.output_order.specs.OrderKeys.{order_keys_from, order_keys}
use Rattle.output_order.specs.Periods.{valid_in}

same_offset : (one other : ℕ) (units : List (Option Shown)) → one ≡ other → order_keys_from one units ≡ order_keys_from other units
same_offset one other units is = ap (λ offset. order_keys_from offset units) is

pub order_keys-append : (offset : ℕ) (units more : List (Option Shown))
    → order_keys_from offset (units ++ more) ≡ order_keys_from offset units ++ order_keys_from (offset + length units) more
order_keys-append offset [] more = same_offset offset (offset + 0) more (omega arith)
order_keys-append offset (None ∷ units) more = order_keys-append (offset + 1) units more
    ∙ ap (λ rest. order_keys_from (offset + 1) units ++ rest) (same_offset (offset + 1 + length units) (offset + suc (length units)) more (omega arith))
order_keys-append offset (Some shown ∷ units) more =
    let key : OrderKey = record { order = shown.order; offset = offset } in
    ap (λ rest. key ∷ rest) (order_keys-append (offset + 1) units more
    ∙ ap (λ rest. order_keys_from (offset + 1) units ++ rest) (same_offset (offset + 1 + length units) (offset + suc (length units)) more (omega arith)))

pub length-order_keys : (offset : ℕ) (units : List (Option Shown)) → length (order_keys_from offset units) ≡ valid_in units
length-order_keys offset [] = refl
length-order_keys offset (None ∷ units) = length-order_keys (offset + 1) units ∙ sym (sum_by-cons (λ unit. cond (is_some unit) 1 0) None units ∙ omega arith)
length-order_keys offset (Some shown ∷ units) =
    let rest = length-order_keys (offset + 1) units in
    sym (sum_by-cons (λ unit. cond (is_some unit) 1 0) (Some shown) units ∙ omega (arith, rest))

module _ (units : List (Option Shown)) (at : ℕ) (keys : List OrderKey) (d : Option Shown) (here : at < length units) (are : keys ≡ order_keys (take at units)) where
  more : order_keys (take (at + 1) units) ≡ keys ++ order_keys_from at (get_or units at d ∷ [])
  more = ap order_keys (take_more units at d here) ∙ order_keys-append 0 (take at units) (get_or units at d ∷ [])
      ∙ ap (λ rest. order_keys (take at units) ++ rest) (same_offset (0 + length (take at units)) at (get_or units at d ∷ []) (omega (arith, length-take-le at units (omega arith))))
      ∙ ap (λ front. front ++ order_keys_from at (get_or units at d ∷ [])) (sym are)

  -- a unit that isn't valid has no key
  pub keys-fault : get_or units at d ≡ None → keys ≡ order_keys (take (at + 1) units)
  keys-fault is = sym (more ∙ ap (λ unit. keys ++ order_keys_from at (unit ∷ [])) is ∙ append-nil keys)

  -- a valid unit has one
  pub keys-valid : (shown : Shown) → get_or units at d ≡ Some shown
      → keys ++ record { order = shown.order; offset = at } ∷ [] ≡ order_keys (take (at + 1) units)
  keys-valid shown is = sym (more ∙ ap (λ unit. keys ++ order_keys_from at (unit ∷ [])) is)
