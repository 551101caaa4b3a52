use Rattle.design_data.proofs.Sums.{groups_more, groups_not}
use Rattle.design_data.proofs.numbers.end_of_bins.Goals as goal

pub returns-in-None : goal.returns-in-None
returns-in-None c = groups_not c.loop-group.end c.loop-group.group c.args.instances.now c.args.groups.now c.loop-group-test.true c.loop-group.invariant.ends c.in-None.ensures.ends

pub loop-group-preserved : goal.loop-group-preserved
loop-group-preserved c = record { ends = groups_more c.loop-group.end c.in-Some.next c.loop-group.group c.args.instances.now c.args.groups.now c.loop-group-test.true c.loop-group.invariant.ends c.in-Some.ensures.ends; few = c.in-Some.ensures.few }
