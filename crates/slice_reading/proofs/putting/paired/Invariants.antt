use Rattle.std.proofs.Common.{◌≡◌}
use Rattle.slice_reading.proofs.putting.paired.Given as goal

abbrev pub invariant-loop-set : goal.invariant-loop-set
invariant-loop-set l = l.tables ≡ l.fn.tables
