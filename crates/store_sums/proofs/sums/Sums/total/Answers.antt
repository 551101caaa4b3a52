use Rattle.std.proofs.Common.{refl, ◌∙◌, ◌+◌, arith}
use Rattle.cov_history.specs.Coverage as cover
use Rattle.cov_history.proofs.Naming.{take_sum}
use Rattle.store_sums.specs.Now.{nodes_now, count_now}
use Rattle.store_sums.proofs.sums.Sums.total.Goals as goal

pub loop-bin-preserved : goal.loop-bin-preserved
loop-bin-preserved c =
    let s = c.args.self.now in
    let i = c.loop-bin.invariant in (
      take_sum c.args.bins.now (cover.count_at (nodes_now s) (count_now s)) c.loop-bin.bin-index _ c.loop-bin.total (c.loop-bin.total + c.from-total.result) c.from-total.result c.loop-bin-test.true (c.from-total.ensures ∙ c.count.ensures) i.0 refl,
      omega (arith, i.1, c.from-total.ensures, c.count.type_inv),
    )
