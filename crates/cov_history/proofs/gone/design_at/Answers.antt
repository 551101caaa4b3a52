use Rattle.cov_history.proofs.Along.{design_more}
use Rattle.cov_history.proofs.gone.design_at.Goals as goal

pub loop-entry-preserved : goal.loop-entry-preserved
loop-entry-preserved c = design_more c.args.entries.now c.loop-entry.entry-index c.entry-item.result c.loop-entry-test.true c.entry-item.is c.args.opening.now c.loop-entry.design.now c.design_after-design.result.now c.loop-entry.invariant c.design_after-design.ensures
