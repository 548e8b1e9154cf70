use Rattle.std.proofs.Common.{◌≡◌, take}
use Rattle.output_order.specs.Periods.{units_of}
use Rattle.output_order.proofs.touching.units_in.Given as goal

abbrev pub invariant-loop-period : goal.invariant-loop-period
invariant-loop-period l = l.units.items ≡ units_of (take l.period-index l.periods)
