-- What a change inside a period makes of the keys that stay.
use Rattle.std.specs.Prelude.{ℕ, ◌+◌, ◌-◌, Bool, ◌||◌, nat_lt, nat_le, if◌then◌else◌}
use Rattle.output_order.specs.declared.order_key.OrderKey.{OrderKey}

-- whether the unit of a key doesn't stand between two places
abbrev pub stays : ℕ → ℕ → OrderKey → Bool
stays low high key = nat_lt key.offset low || nat_le high key.offset

-- the key of a unit after those before it up to `from` have become those up to `to`
abbrev pub moved : ℕ → ℕ → OrderKey → OrderKey
moved from to key = if nat_lt key.offset from then key else record key { offset = key.offset - from + to }
