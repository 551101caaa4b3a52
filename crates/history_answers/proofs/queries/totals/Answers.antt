use Rattle.std.proofs.Common.{arith}
use Rattle.cov_history.proofs.Summing.{map_more}
use Rattle.history_answers.specs.Kept.{total}
use Rattle.history_answers.proofs.queries.totals.Goals as goal

pub loop-bin-preserved : goal.loop-bin-preserved
loop-bin-preserved c =
    let inv = c.loop-bin.invariant in
    (map_more (total c.args.tests.now) c.loop-bin.bin c.loop-bin.totals.items c.push.new.self.items c.total.result inv.0 c.total.ensures c.in_ok-push.ensures.items, omega (arith, inv.1, c.loop-bin-test.true))
