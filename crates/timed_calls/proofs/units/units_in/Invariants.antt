use Rattle.std.proofs.Common.{◌≡◌, ◌++◌, length}
use Rattle.std.specs.List.{flat_map}
use Rattle.timed_calls.specs.Units.{framed}
use Rattle.timed_calls.proofs.units.units_in.Given as goal

abbrev pub invariant-units : goal.invariant-units
invariant-units l = flat_map (λ unit. framed unit.now) l.units.items ++ l.rest ≡ l.file

abbrev pub decreases-units : goal.decreases-units
decreases-units l = length l.rest
