use Rattle.std.proofs.Common.{arith}
use Rattle.value_bins.proofs.Written.{drop_at, written_step, written_end}
use Rattle.value_bins.proofs.distinct.numbers_of.Goals as goal

pub loop-range-preserved : goal.loop-range-preserved
loop-range-preserved c =
    let at = drop_at c.args.ranges.now c.loop-range.range-index c.range-item.result (omega arith) c.range-item.is in
    written_step _ _ _ _ _ _ at c.loop-range.invariant c.in_ok-add_numbers.ensures

pub returns : goal.returns
returns c = written_end c.loop-range.numbers.items c.args.ranges.now c.loop-range.range-index _ c.loop-range-test.false c.loop-range.invariant
