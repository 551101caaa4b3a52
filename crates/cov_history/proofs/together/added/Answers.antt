use Rattle.std.proofs.Common.{◌+◌, arith}
use Rattle.std.specs.Prelude.{slice_index}
use Rattle.cov_history.proofs.Summing.{map_more}
use Rattle.cov_history.proofs.together.added.Goals as goal

pub loop-bin-preserved : goal.loop-bin-preserved
loop-bin-preserved c =
    let inv = c.loop-bin.invariant in
    (map_more (λ bin. slice_index c.args.sums.now bin + slice_index c.args.counts.now bin) c.loop-bin.bin c.loop-bin.both.items c.push.new.self.items (c.count.result + c.count-in-loop-bin.result) inv.0 (λ i. c.count.ensures i + c.count-in-loop-bin.ensures i) c.in_ok-push.ensures.items, omega (arith, inv.1, inv.2, c.loop-bin-test.true), inv.2)
