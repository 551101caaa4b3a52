use Rattle.value_bins.proofs.Keeping.{keeps_next, keeps_span}
use Rattle.value_bins.proofs.filter.keep_numbers.Goals as goal

pub loop-offset-preserved : goal.loop-offset-preserved
loop-offset-preserved g c = keeps_next _ c.args.low c.loop-offset.offset c.plus.result _ _ _ c.plus.ensures c.loop-offset.invariant c.in_ok-keep_number.ensures

pub returns : goal.returns
returns g c = keeps_span _ c.args.low c.args.high c.loop-offset.offset c.size_of-offset-end.result _ _ c.size_of-offset-end.ensures.size c.loop-offset-test.false c.loop-offset.auto.offset-end c.loop-offset.invariant
