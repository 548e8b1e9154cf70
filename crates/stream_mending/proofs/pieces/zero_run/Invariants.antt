use Rattle.std.proofs.Common.{◌≡◌, ◌+◌, drop}
use Rattle.annexb.specs.Faults.{zero_run}
use Rattle.stream_mending.proofs.pieces.zero_run.Given as goal

abbrev pub invariant-loop-count : goal.invariant-loop-count
invariant-loop-count l = l.count + zero_run (drop l.count l.bytes) ≡ zero_run l.bytes
