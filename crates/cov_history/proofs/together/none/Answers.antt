use Rattle.std.proofs.Common.{[], refl, arith}
use Rattle.cov_history.specs.History.{hits_of}
use Rattle.cov_history.proofs.Summing.{map_more}
use Rattle.cov_history.proofs.together.none.Goals as goal

pub loop-preserved : goal.loop-preserved
loop-preserved c =
    let inv = c.loop.invariant in
    (map_more (hits_of c.args.design.now []) c.loop.counter c.loop.counts.items c.push.new.self.items 0 inv.0 refl c.in_ok-push.ensures.items, omega (arith, inv.1, c.loop-test.true), inv.2)
