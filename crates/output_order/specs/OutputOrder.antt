-- Output order: by picture order count within each period, and period after period (ITU-T H.264,
-- 8.2.1 and C.4.5.3).
use Rattle.std.specs.Prelude.{ℕ, ℤ, ◌+◌, Bool, false, Option, Some, None, option_map, option_and_then, List, length, map, take, slice_get, count_by}
use Rattle.std.specs.List.{filter_map, range_with_len}
use Rattle.std.specs.Ordering.{is_lt, nat_cmp, int_cmp, ordering_then}
use Rattle.unit_outcomes.specs.declared.outcome.Outcome.{Outcome}
use Rattle.unit_outcomes.specs.declared.outcome.Outcome.TheVariants.{Plan, Fault, Empty}
use Rattle.output_order.specs.declared.positions_by_key.Key.{Key}

-- a valid unit that begins a period
abbrev pub begins_period : Outcome → Bool
begins_period (Plan plan) = plan.begins_period
begins_period (Fault fault) = false
begins_period Empty = false

-- the picture order count of a valid unit
abbrev pub order_of : Outcome → Option ℤ
order_of (Plan plan) = Some plan.order
order_of (Fault fault) = None
order_of Empty = None

-- the period at a place: how many units up to it begin one
abbrev pub period_at : List Outcome → ℕ → ℕ
period_at outcomes place = count_by begins_period (take (place + 1) outcomes)

-- the key of the unit at a place, if it is valid
abbrev pub key_at : List Outcome → ℕ → Option Key
key_at outcomes place = option_map
    (λ order. record { period = period_at outcomes place; order = order; place = place })
    (option_and_then order_of (slice_get outcomes place))

-- the keys of the valid units
abbrev pub keys : List Outcome → List Key
keys outcomes = filter_map (key_at outcomes) (range_with_len 0 (length outcomes))

-- by period, then by picture order count, then by place
abbrev pub is_earlier : Key → Key → Bool
is_earlier one other = is_lt
    (ordering_then (nat_cmp one.period other.period)
    (ordering_then (int_cmp one.order other.order) (nat_cmp one.place other.place)))

-- the position of the unit at a place, if it is valid: how many keys are earlier than its own
abbrev pub position_at : List Outcome → ℕ → Option ℕ
position_at outcomes place = option_map
    (λ key. count_by (λ other. is_earlier other key) (keys outcomes))
    (key_at outcomes place)

-- the position of each unit
abbrev pub positions_of : List Outcome → List (Option ℕ)
positions_of outcomes = map (position_at outcomes) (range_with_len 0 (length outcomes))
