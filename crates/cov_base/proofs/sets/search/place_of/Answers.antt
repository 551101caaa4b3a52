use Rattle.cov_base.proofs.Search.{halved}
use Rattle.cov_base.proofs.sets.search.place_of.Goals as goal

pub loop-size-preserved : goal.loop-size-preserved
loop-size-preserved c = halved c.args.intervals.now c.args.v c.loop-size.base c.loop-size.size c.reaches.result c.index-intervals-base.result c.requires.ascends c.loop-size.invariant c.loop-size-test.true c.reaches.ensures
