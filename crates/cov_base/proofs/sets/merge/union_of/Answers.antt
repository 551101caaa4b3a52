use Rattle.std.proofs.Common.{arith}
use Rattle.cov_base.proofs.Steps.{drop_at, union_step}
use Rattle.cov_base.proofs.sets.merge.union_of.Goals as goal

pub loop-range-preserved : goal.loop-range-preserved
loop-range-preserved c =
    let at = drop_at c.args.left.now c.loop-range.range-index c.range-item.result (omega arith) c.range-item.is in
    union_step _ _ _ _ _ _ _ _ _ at c.in_ok-rest.ensures.joined c.in_ok-join.ensures c.in_ok-rest.ensures.rest c.loop-range.invariant
