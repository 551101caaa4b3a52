use Rattle.design_data.proofs.Sums.{group_more, group_not}
use Rattle.design_data.proofs.numbers.end_of_group.Goals as goal

pub returns-in-None-clause-ends : goal.returns-in-None-clause-ends
returns-in-None-clause-ends c = group_not c.args.first c.loop-inst.end c.loop-inst.inst-index c.args.group c.args.instances.now c.inst-item.result c.loop-inst-test.true c.inst-item.is c.loop-inst.invariant.ends c.in-None.ensures.ends

pub loop-inst-preserved : goal.loop-inst-preserved
loop-inst-preserved c = record { ends = group_more c.args.first c.loop-inst.end c.in-Some.next c.loop-inst.inst-index c.args.group c.args.instances.now c.inst-item.result c.loop-inst-test.true c.inst-item.is c.loop-inst.invariant.ends c.in-Some.ensures.ends; few = c.in-Some.ensures.few }
