use Rattle.std.proofs.Common.{take}
use Rattle.stream_fold.specs.Refolding.{GoesOn}
use Rattle.stream_fold.proofs.refold.Refold.go_over.Given as goal

abbrev pub invariant-loop-unit : goal.invariant-loop-unit
invariant-loop-unit l = GoesOn l.initial.self (take l.unit-index l.units) l.self
