use Rattle.value_bins.proofs.Written.{number_step, numbers_end}
use Rattle.value_bins.proofs.distinct.add_numbers.Goals as goal

pub loop-offset-preserved : goal.loop-offset-preserved
loop-offset-preserved c = number_step c.args.low c.loop-offset.offset _ _ _ c.plus.result c.loop-offset.invariant c.plus.ensures c.in_ok-push.ensures.items

pub returns : goal.returns
returns c = numbers_end c.args.low c.args.high c.loop-offset.offset c.size_of-offset-end.result _ _ c.loop-offset.invariant c.size_of-offset-end.ensures.size c.loop-offset-test.false c.loop-offset.auto.offset-end
