use Rattle.std.proofs.Common.{ltb, rules}
use Rattle.std.proofs.lemmas.List.Sorted.{IsPartitionPoint-from_clause, IsPartitionedBy-ltb}
use Rattle.checkpoints.proofs.Searches.{IsNonDecreasingBy-rising, prefix_len-is}
use Rattle.checkpoints.proofs.checkpoints.places_below.Goals as goal

pub returns-clause-value : goal.returns-clause-value
returns-clause-value c =
    let places = c.args.places.now in
    let parted = IsPartitionedBy-ltb (λ p. p) places c.args.place (IsNonDecreasingBy-rising places c.requires) in
    let point = IsPartitionPoint-from_clause (λ p. ltb p c.args.place) _ _ c.partition_point.ensures.partitioned parted (λ a r q k. search rules) in
    prefix_len-is (λ p. ltb p c.args.place) places c.partition_point.result c.partition_point.ensures.bound point.0 point.1
