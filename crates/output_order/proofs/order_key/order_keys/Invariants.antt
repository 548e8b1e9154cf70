use Rattle.std.proofs.Common.{◌≡◌, ◌≤◌, take}
use Rattle.std.specs.Vec.{vec_capacity}
use Rattle.output_order.specs.OrderKeys.{order_keys}
use Rattle.output_order.proofs.order_key.order_keys.Given as goal

abbrev pub invariant-loop-offset : goal.invariant-loop-offset
invariant-loop-offset l = record {
  keys : l.keys.items ≡ order_keys (take l.offset l.units);
  spare : l.spare ≤ vec_capacity l.keys;
}
