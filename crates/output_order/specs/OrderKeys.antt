-- Output order within one period: by picture order count, then by place (ITU-T H.264, C.4.5.3).
use Rattle.std.specs.Prelude.{ℕ, ◌+◌, Bool, Option, Some, None, List, [], ◌∷◌}
use Rattle.std.specs.List.Sorted.{IsPermutation, IsSortedBy}
use Rattle.std.specs.Ordering.{is_lt, nat_cmp, int_cmp, ordering_then}
use Rattle.output_order.specs.declared.shown.Shown.{Shown}
use Rattle.output_order.specs.declared.order_key.OrderKey.{OrderKey}

-- whether the first of two units is shown first
abbrev pub is_first : OrderKey → OrderKey → Bool
is_first one other = is_lt (ordering_then (int_cmp one.order other.order) (nat_cmp one.offset other.offset))

-- the keys of the valid units of a period's rest, before which so many of its units stand
abbrev pub order_keys_from : ℕ → List (Option Shown) → List OrderKey
order_keys_from offset [] = []
order_keys_from offset (None ∷ units) = order_keys_from (offset + 1) units
order_keys_from offset (Some shown ∷ units) = record { order = shown.order; offset = offset } ∷ order_keys_from (offset + 1) units

-- the keys of the valid units of a period
abbrev pub order_keys : List (Option Shown) → List OrderKey
order_keys units = order_keys_from 0 units

-- the keys of a period's valid units, in output order
pub record AreInOrder (units : List (Option Shown)) (sorted : List OrderKey) : Type 0 where
  pub permutation : IsPermutation (order_keys units) sorted
  pub ascending : IsSortedBy is_first sorted
