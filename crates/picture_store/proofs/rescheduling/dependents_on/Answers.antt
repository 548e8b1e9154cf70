use Rattle.std.proofs.Common.{ltb, leb, rules}
use Rattle.std.proofs.lemmas.List.Sorted.{IsPartitionPoint-from_clause, IsPartitionedBy-leb, IsPartitionedBy-ltb}
use Rattle.picture_store.specs.declared.schedule.Dependent.{Dependent}
use Rattle.picture_store.proofs.Between.{ordered, are_between, all_between}
use Rattle.picture_store.proofs.rescheduling.dependents_on.Goals as goal

pub slice_bounds-result-count : goal.slice_bounds-result-count
slice_bounds-result-count c =
    let xs = c.args.dependents.now in
    let key = c.args.key in
    let first = IsPartitionPoint-from_clause (λ (d : Dependent). ltb d.entry key) _ _ c.partition_point-from.ensures.partitioned
    (IsPartitionedBy-ltb (λ (d : Dependent). d.entry) xs key c.requires) (λ a r q k. search rules) in
    let second = IsPartitionPoint-from_clause (λ (d : Dependent). leb d.entry key) _ _ c.partition_point-to.ensures.partitioned
    (IsPartitionedBy-leb (λ (d : Dependent). d.entry) xs key c.requires) (λ a r q k. search rules) in
    ordered xs key c.partition_point-from.result c.partition_point-to.result c.partition_point-from.ensures.bound
    c.partition_point-to.ensures.bound first second

pub slice_bounds-result-start : goal.slice_bounds-result-start
slice_bounds-result-start c = slice_bounds-result-count c

pub returns : goal.returns
returns c =
    let xs = c.args.dependents.now in
    let key = c.args.key in
    let first = IsPartitionPoint-from_clause (λ (d : Dependent). ltb d.entry key) _ _ c.partition_point-from.ensures.partitioned
    (IsPartitionedBy-ltb (λ (d : Dependent). d.entry) xs key c.requires) (λ a r q k. search rules) in
    let second = IsPartitionPoint-from_clause (λ (d : Dependent). leb d.entry key) _ _ c.partition_point-to.ensures.partitioned
    (IsPartitionedBy-leb (λ (d : Dependent). d.entry) xs key c.requires) (λ a r q k. search rules) in
    λ d. (
      are_between xs key c.partition_point-from.result c.partition_point-to.result c.partition_point-from.ensures.bound
          c.partition_point-to.ensures.bound first second d,
      all_between xs key c.partition_point-from.result c.partition_point-to.result c.partition_point-from.ensures.bound
          c.partition_point-to.ensures.bound first second d,
    )
