use Rattle.std.proofs.Common.{ltb, rules}
use Rattle.std.proofs.lemmas.Bool.{ltb-true, ltb-false}
use Rattle.std.proofs.lemmas.List.Sorted.{IsPartitionPoint-from_clause, IsPartitionedBy-ltb}
use Rattle.output_order.proofs.counting.started_before.Goals as goal

pub returns-clause-before : goal.returns-clause-before
returns-clause-before c =
    let counts = c.args.counts.now in
    let parted = IsPartitionedBy-ltb (λ count. count.start) counts c.args.place c.requires in
    let point = IsPartitionPoint-from_clause (λ count. ltb count.start c.args.place) _ _ c.partition_point.ensures.partitioned parted (λ a r q k. search rules) in
    λ k d low high. ltb-true _ _ (point.0 k d low high)

pub returns-clause-after : goal.returns-clause-after
returns-clause-after c =
    let counts = c.args.counts.now in
    let parted = IsPartitionedBy-ltb (λ count. count.start) counts c.args.place c.requires in
    let point = IsPartitionPoint-from_clause (λ count. ltb count.start c.args.place) _ _ c.partition_point.ensures.partitioned parted (λ a r q k. search rules) in
    λ k d low high. ltb-false _ _ (point.1 k d low high)
