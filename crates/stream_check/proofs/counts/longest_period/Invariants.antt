use Rattle.std.proofs.Common.{◌≡◌, ◌≤◌, ◌+◌, max, drop}
use Rattle.stream_check.specs.StreamCounts.{before_next, longest_period}
use Rattle.stream_check.proofs.counts.longest_period.Given as goal

-- the longest so far, the one that goes on, and those that are left
abbrev pub invariant-loop-outcome : goal.invariant-loop-outcome
invariant-loop-outcome l = record {
  so_far : longest_period l.outcomes ≡ max l.longest (max (l.len + before_next (drop l.outcome-index l.outcomes)) (longest_period (drop l.outcome-index l.outcomes)));
  last : l.len ≤ l.longest;
}
