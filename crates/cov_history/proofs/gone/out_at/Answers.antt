use Rattle.cov_history.proofs.Along.{out_more}
use Rattle.cov_history.proofs.gone.out_at.Goals as goal

pub loop-entry-preserved : goal.loop-entry-preserved
loop-entry-preserved c = out_more c.args.entries.now c.loop-entry.entry-index c.entry-item.result c.loop-entry-test.true c.entry-item.is c.loop-entry.out.items c.in_ok-out.out.items c.loop-entry.invariant c.in_ok-out.ensures
