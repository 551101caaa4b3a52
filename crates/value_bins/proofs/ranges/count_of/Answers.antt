use Rattle.std.proofs.Common.{arith, length, refl}
use Rattle.cov_base.specs.Sets.{written}
use Rattle.value_bins.proofs.Written.{drop_at, length_step, length_end}
use Rattle.value_bins.proofs.ranges.count_of.Goals as goal

pub loop-range-preserved : goal.loop-range-preserved
loop-range-preserved c =
    let at = drop_at c.args.ranges.now c.loop-range.range-index c.range-item.result (omega arith) c.range-item.is in
    record {
      counted = length_step _ _ _ _ _ _ _ at c.loop-range.invariant.counted c.size_of-count.ensures.size refl;
      bound = omega (arith, c.loop-range.invariant.bound, c.size_of-count.ensures.bound);
    }

pub returns : goal.returns
returns c = length_end c.loop-range.count c.args.ranges.now c.loop-range.range-index (length (written c.args.ranges.now)) c.loop-range-test.false c.loop-range.invariant.counted
