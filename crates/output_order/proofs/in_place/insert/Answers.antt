use Rattle.std.proofs.Common.{rules}
use Rattle.std.proofs.lemmas.List.Sorted.{IsPartitionPoint-from_clause, IsPermutation-insert}
use Rattle.output_order.specs.OrderKeys.{is_first}
use Rattle.output_order.proofs.Halves.{parted}
use Rattle.output_order.proofs.Insertion.{insert-sorted}
use Rattle.output_order.proofs.in_place.insert.Goals as goal

pub returns-clause-sorted : goal.returns-clause-sorted
returns-clause-sorted c =
    let keys = c.args.keys.now.items in
    let read = c.deref.ensures.value in
    let point = IsPartitionPoint-from_clause (λ other. is_first other c.args.key) _ _ c.partition_point-at.ensures.partitioned (rw read (parted keys c.requires.sorted c.args.key)) (λ a r q k. search rules) in
    rw c.in-Ok.ensures.items (insert-sorted keys c.partition_point-at.result c.args.key c.requires.sorted (rw read at c.partition_point-at.ensures.bound) (rw read at point.0) (rw read at point.1))

pub returns-clause-permutation : goal.returns-clause-permutation
returns-clause-permutation c = rw c.in-Ok.ensures.items (IsPermutation-insert c.args.keys.now.items c.partition_point-at.result c.args.key)
