use Rattle.vcd_reader.proofs.Pushes.{pushed_more}
use Rattle.vcd_reader.proofs.walking.push_all.Goals as goal

pub loop-event-preserved : goal.loop-event-preserved
loop-event-preserved c = pushed_more c.loop-event.invariant c.in_ok-push.ensures
