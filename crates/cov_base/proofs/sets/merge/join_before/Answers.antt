use Rattle.std.proofs.Common.{arith, ◌<ℤ◌}
use Rattle.std.proofs.lemmas.Int.{ints}
use Rattle.cov_base.proofs.Steps.{drop_at, before_step, after_step}
use Rattle.cov_base.proofs.sets.merge.join_before.Goals as goal

pub loop-i-preserved : goal.loop-i-preserved
loop-i-preserved c =
    let at = drop_at c.args.ranges.now c.loop-i.i c.index-ranges-i.result (omega arith) c.index-ranges-i.is in
    let under : c.index-ranges-i.result.0 <ℤ c.args.low = omega (arith, ints, c.get.ensures.value, c.get-in-loop-i.ensures.value) in
    record {
      joined = before_step _ _ _ _ _ _ _ at c.in_ok-join.ensures c.loop-i.invariant.joined under;
      rest = after_step _ _ _ _ _ at c.loop-i.invariant.rest under;
    }
