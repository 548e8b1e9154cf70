-- What of a unit's outcome decides about positions (ITU-T H.264, C.4.5.3).
use Rattle.std.specs.Prelude.{Bool, false, Option, Some, None}
use Rattle.unit_outcomes.specs.declared.outcome.Outcome.{Outcome}
use Rattle.unit_outcomes.specs.declared.outcome.Outcome.TheVariants.{Plan, Fault, Empty}
use Rattle.output_order.specs.declared.shown.Shown.{Shown}

-- the picture order count of a valid unit, and whether it begins a period
abbrev pub shown_of : Outcome → Option Shown
shown_of (Plan plan) = Some (record { order = plan.order; begins_period = plan.begins_period })
shown_of (Fault fault) = None
shown_of Empty = None

-- a valid unit that begins a period
abbrev pub begins_period : Option Shown → Bool
begins_period None = false
begins_period (Some shown) = shown.begins_period
