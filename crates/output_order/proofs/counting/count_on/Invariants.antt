use Rattle.std.proofs.Common.{◌≡◌, vec_len}
use Rattle.std.specs.Vec.{vec_capacity}
use Rattle.output_order.specs.PeriodLists.{AreCounted}
use Rattle.output_order.proofs.counting.count_on.Given as goal

abbrev pub invariant-loop : goal.invariant-loop
invariant-loop l = record {
  counted : AreCounted l.periods l.counter l.counts.items;
  len : vec_len l.counts ≡ l.counter;
  capacity : vec_capacity l.counts ≡ vec_capacity l.initial.counts;
}
