use Rattle.std.proofs.Common.{◌≢◌, All, take}
use Rattle.serve_calls.proofs.wanted_units.has_number.Given as goal

abbrev pub invariant-loop-unit : goal.invariant-loop-unit
invariant-loop-unit l = All (λ unit. unit.number ≢ l.number) (take l.unit-index l.units)
