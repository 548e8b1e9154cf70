use Rattle.std.proofs.Common.{◌≡◌, ◌-◌, ◌≤◌, length, drop}
use Rattle.stream_mending.specs.Faults.{has_forbidden}
use Rattle.stream_mending.proofs.faults.has_forbidden.Given as goal

abbrev pub invariant-loop-ahead : goal.invariant-loop-ahead
invariant-loop-ahead l = record {
  within : l.at ≤ length l.bytes;
  same : has_forbidden (drop l.at l.bytes) ≡ has_forbidden l.bytes;
}

abbrev pub decreases-loop-ahead : goal.decreases-loop-ahead
decreases-loop-ahead l = length l.bytes - l.at
