-- A key put among others in output order.
use Rattle.std.proofs.Common.{◌≡◌, ℕ, ◌+◌, ◌-◌, ◌<◌, ◌≤◌, ⊎_elim, true, false, Option, Some, None, List, [], ◌∷◌, ◌++◌, length, take, get_or, sym, ap, ◌∙◌, arith}
use Rattle.std.proofs.lemmas.Bool.{cases_lt}
use Rattle.std.proofs.lemmas.List.{append_assoc, append-nil, take_more, length-take-le}
use Rattle.std.proofs.lemmas.List.Edits.{length-insert, get_or-insert_below, get_or-insert_at, get_or-insert_above}
use Rattle.std.proofs.lemmas.List.Sorted.{IsPermutation-trans, IsPermutation-middle, IsPermutation-cons}
use Rattle.std.specs.List.{AllWithin, insert}
use Rattle.std.specs.List.Sorted.{IsSortedBy, IsPermutation}
use Rattle.output_order.specs.declared.shown.Shown.{Shown}
use Rattle.output_order.specs.declared.order_key.OrderKey.{OrderKey}
use Rattle.output_order.specs.OrderKeys.{is_first, order_keys_from}
use Rattle.output_order.proofs.Halves.{weak}
use Rattle.output_order.proofs.OrderedKeys.{order_keys-append}

-- it stands behind those that are shown before it
pub insert-sorted : (keys : List OrderKey) (at : ℕ) (key : OrderKey) → IsSortedBy is_first keys → at ≤ length keys
    → AllWithin (λ other. is_first other key ≡ true) keys 0 at → AllWithin (λ other. is_first other key ≡ false) keys at (length keys)
    → IsSortedBy is_first (insert keys at key)
insert-sorted keys at key ascending within before after k d least below =
    let long = length-insert keys at key within in
    ⊎_elim
    (λ (front : k + 1 < at).
    rw (get_or-insert_below keys at key d (k + 1) front within, get_or-insert_below keys at key d k (omega arith) within) (ascending k d least (omega (arith, within))))
    (λ (from : at ≤ k + 1). ⊎_elim
    (λ (here : k < at).
    let next : k + 1 ≡ at = omega arith in
    rw (next, get_or-insert_at keys at key d within, get_or-insert_below keys at key d k here within) (weak.one_way (get_or keys k d) key (before k d (omega arith) here)))
    (λ (past : at ≤ k). ⊎_elim
    (λ (same : k < at + 1).
    let is : k ≡ at = omega arith in
    rw (is, get_or-insert_above keys at key d at (omega arith) within, get_or-insert_at keys at key d within) (after at d (omega arith) (omega (arith, long))))
    (λ (behind : at + 1 ≤ k).
    let last : k - 1 + 1 ≡ k = omega arith in
    let this : get_or (insert keys at key) k d ≡ get_or keys (k - 1) d = ap (λ n. get_or (insert keys at key) n d) (sym last) ∙ get_or-insert_above keys at key d (k - 1) (omega arith) within in
    let up : is_first (get_or keys (k - 1 + 1) d) (get_or keys (k - 1) d) ≡ false = ascending (k - 1) d (omega arith) (omega (arith, long)) in
    rw (get_or-insert_above keys at key d k past within, this) (rw last at up))
    (cases_lt k (at + 1)))
    (cases_lt k at))
    (cases_lt (k + 1) at)

-- the keys of units up to a place, among others
module _ (place : ℕ) (units : List (Option Shown)) (others keys : List OrderKey) (at : ℕ) (d : Option Shown) (here : at < length units)
    (are : IsPermutation (order_keys_from place (take at units) ++ others) keys) where
  more : order_keys_from place (take (at + 1) units) ≡ order_keys_from place (take at units) ++ order_keys_from (place + at) (get_or units at d ∷ [])
  more =
      let long : place + length (take at units) ≡ place + at = omega (arith, length-take-le at units (omega arith)) in
      ap (order_keys_from place) (take_more units at d here) ∙ order_keys-append place (take at units) (get_or units at d ∷ [])
      ∙ ap (λ offset. order_keys_from place (take at units) ++ order_keys_from offset (get_or units at d ∷ [])) long

  -- a unit that isn't valid has none
  pub put-fault : get_or units at d ≡ None → IsPermutation (order_keys_from place (take (at + 1) units) ++ others) keys
  put-fault is =
      let same : order_keys_from place (take (at + 1) units) ≡ order_keys_from place (take at units) =
      more ∙ ap (λ unit. order_keys_from place (take at units) ++ order_keys_from (place + at) (unit ∷ [])) is ∙ append-nil (order_keys_from place (take at units)) in
      rw same are

  -- a valid unit has one
  pub put-valid : (shown : Shown) (new : List OrderKey) → get_or units at d ≡ Some shown
      → IsPermutation (record { order = shown.order; offset = place + at } ∷ keys) new → IsPermutation (order_keys_from place (take (at + 1) units) ++ others) new
  put-valid shown new is permutation =
      let front = order_keys_from place (take at units) in
      let key : OrderKey = record { order = shown.order; offset = place + at } in
      let next : order_keys_from place (take (at + 1) units) ++ others ≡ front ++ key ∷ others =
      ap (λ keys. keys ++ others) (more ∙ ap (λ unit. front ++ order_keys_from (place + at) (unit ∷ [])) is) ∙ append_assoc front (key ∷ []) others in
      rw next (IsPermutation-trans (front ++ key ∷ others) (key ∷ (front ++ others)) new (IsPermutation-middle front key others)
      (IsPermutation-trans (key ∷ (front ++ others)) (key ∷ keys) new (IsPermutation-cons key (front ++ others) keys are) permutation))
