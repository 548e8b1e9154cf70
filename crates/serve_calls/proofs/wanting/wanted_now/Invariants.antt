use Rattle.std.proofs.Common.{take}
use Rattle.serve_calls.specs.Wanting.{TellsOf}
use Rattle.serve_calls.proofs.wanting.wanted_now.Given as goal

abbrev pub invariant-loop-unit : goal.invariant-loop-unit
invariant-loop-unit l = TellsOf l.session (take l.unit-index l.units) l.told
