use Rattle.std.proofs.Common.{◌+◌, ◌-◌, ◌≤◌, length}
use Rattle.output_order.proofs.Halves.{IsNarrowed}
use Rattle.output_order.proofs.Logarithms.{IsOnWay}
use Rattle.output_order.proofs.order_key.rank.Given as goal

abbrev pub invariant-loop-low : goal.invariant-loop-low
invariant-loop-low l = record {
  narrowed : IsNarrowed l.sorted l.key l.low l.high;
  few : l.comparisons + l.high ≤ l.initial.comparisons + length l.sorted + l.low;
  way : IsOnWay (length l.sorted) (l.high - l.low) l.initial.comparisons l.comparisons;
}

abbrev pub decreases-loop-low : goal.decreases-loop-low
decreases-loop-low l = l.high - l.low
