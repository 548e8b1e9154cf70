use Rattle.std.proofs.Common.{◌≡◌, ◌+◌, ◌-◌, ◌≤◌, ◌++◌, ℕ, List, [], length, drop, true, false}
use Rattle.plan_stream.specs.Fronts.{front_len}
use Rattle.plan_stream.proofs.front.front_len.Given as goal

abbrev pub invariant-loop-ahead : goal.invariant-loop-ahead
invariant-loop-ahead l = record {
  within : l.at ≤ length l.bytes;
  so_far : (more : List ℕ) → (l.is_over ≡ true → more ≡ [])
      → front_len false (l.bytes ++ more) ≡ l.at + front_len l.has_slice (drop l.at l.bytes ++ more);
}

abbrev pub decreases-loop-ahead : goal.decreases-loop-ahead
decreases-loop-ahead l = length l.bytes - l.at
