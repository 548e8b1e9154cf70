use Rattle.std.proofs.Common.{◌+◌, ◌-◌, ◌≤◌, ◌++◌, take, length, vec_len}
use Rattle.std.specs.Vec.{vec_capacity}
use Rattle.std.specs.List.Sorted.{IsSortedBy, IsPermutation}
use Rattle.output_order.specs.OrderKeys.{is_first, order_keys_from}
use Rattle.output_order.proofs.in_place.put_in.Given as goal

abbrev pub invariant-loop-index : goal.invariant-loop-index
invariant-loop-index l = record {
  sorted : IsSortedBy is_first l.keys.items;
  permutation : IsPermutation (order_keys_from l.place (take l.index l.units) ++ l.initial.keys.items) l.keys.items;
  spare : vec_len l.keys + (length l.units - l.index) ≤ vec_capacity l.keys;
  capacity : vec_capacity l.initial.keys ≤ vec_capacity l.keys;
}
