use Rattle.std.proofs.Common.{leb, ◌≡◌, true, false, rules}
use Rattle.std.specs.List.Sorted.{IsPartitionPoint}
use Rattle.std.proofs.lemmas.List.Sorted.{IsPartitionPoint-from_clause, IsPartitionedBy-leb, IsNonDecreasingBy-from_default}
use Rattle.cov_base.proofs.Search.{point_some, point_is_last}
use Rattle.cov_base.proofs.sets.counts.place_of.Goals as goal

point : (c : goal.After-partition_point) → IsPartitionPoint (λ y. leb y c.args.k ≡ true) (λ y. leb y c.args.k ≡ false) c.args.starts.now c.partition_point.result
point c =
    IsPartitionPoint-from_clause (λ y. leb y c.args.k) c.args.starts.now c.partition_point.result c.partition_point.ensures.partitioned
    (IsPartitionedBy-leb (λ y. y) c.args.starts.now c.args.k (IsNonDecreasingBy-from_default (λ y. y) c.args.starts.now 0 c.requires.ascends))
    (λ a r q k. search rules)

pub overflow_sub-result : goal.overflow_sub-result
overflow_sub-result c = point_some c.args.starts.now c.args.k c.partition_point.result c.requires.some c.requires.first (point c)

pub returns-clause-reached : goal.returns-clause-reached
returns-clause-reached c =
    let some = point_some c.args.starts.now c.args.k c.partition_point.result c.requires.some c.requires.first (point c) in
    (point_is_last c.args.starts.now c.args.k c.partition_point.result some c.partition_point.ensures.bound (point c)).reached

pub returns-clause-above : goal.returns-clause-above
returns-clause-above c =
    let some = point_some c.args.starts.now c.args.k c.partition_point.result c.requires.some c.requires.first (point c) in
    (point_is_last c.args.starts.now c.args.k c.partition_point.result some c.partition_point.ensures.bound (point c)).above
