use Rattle.std.proofs.Common.{◌≡◌, ◌+◌, ◌++◌, ◌≤◌, length}
use Rattle.std.specs.Vec.{vec_capacity, vec_len}
use Rattle.decode_jobs.specs.Placed.{unused_below}
use Rattle.decode_jobs.proofs.dep_keys.numbers.add_unused.Given as goal

abbrev pub invariant-loop-number : goal.invariant-loop-number
invariant-loop-number l = record {
  left : l.unused.items ++ unused_below l.live l.number ≡ unused_below l.live (length l.places);
  bound : vec_len l.unused + l.number ≤ vec_capacity l.unused;
}

abbrev pub decreases-loop-number : goal.decreases-loop-number
decreases-loop-number l = l.number
