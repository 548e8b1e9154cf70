use Rattle.std.proofs.Common.{take}
use Rattle.serve_calls.specs.WantedUnits.{AreWanted}
use Rattle.serve_calls.proofs.wanted_units.wanted_units.Given as goal

abbrev pub invariant-loop-number : goal.invariant-loop-number
invariant-loop-number l = AreWanted (take l.number-index l.numbers) l.units.items
