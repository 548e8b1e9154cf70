-- The second row of a drawing: its pictures in output order.
use Rattle.std.specs.Prelude.{ℕ, ◌+◌, Bool, false, Option, Some, None, option_map, option_and_then, List, length, take, slice_get, count_by}
use Rattle.std.specs.List.{filter_map, range_with_len}
use Rattle.std.specs.Ordering.{is_lt, nat_cmp, ordering_then}
use Rattle.stream_svg.specs.declared.output_row.OutputUnit.{OutputUnit}
use Rattle.stream_svg.specs.declared.unit.DrawnUnit.{DrawnUnit}
use Rattle.stream_svg.specs.declared.unit.UnitKind.{UnitKind}
use Rattle.stream_svg.specs.declared.unit.UnitKind.TheVariants as kinds

-- the position of a picture
abbrev pub position_of : UnitKind → Option ℕ
position_of (kinds.Picture picture) = Some picture.position
position_of (kinds.Fault fault) = None
position_of kinds.Empty = None

-- a picture that begins a period
abbrev pub begins_period : UnitKind → Bool
begins_period (kinds.Picture picture) = picture.begins_period
begins_period (kinds.Fault fault) = false
begins_period kinds.Empty = false

-- how many of the units up to a place begin a period
abbrev pub period_at : List DrawnUnit → ℕ → ℕ
period_at units place = count_by (λ unit. begins_period unit.kind) (take (place + 1) units)

-- what the second row shows of the unit at a place, if it is a picture
abbrev pub shown_at : List DrawnUnit → ℕ → Option OutputUnit
shown_at units place = option_map
    (λ position. record { position = position; place = place; period = period_at units place })
    (option_and_then (λ unit. position_of unit.kind) (slice_get units place))

-- what it shows of all units, in stream order
abbrev pub shown_units : List DrawnUnit → List OutputUnit
shown_units units = filter_map (shown_at units) (range_with_len 0 (length units))

-- by position, and of equal ones by place
abbrev pub is_before : OutputUnit → OutputUnit → Bool
is_before one other = is_lt (ordering_then (nat_cmp one.position other.position)
    (ordering_then (nat_cmp one.place other.place) (nat_cmp one.period other.period)))
