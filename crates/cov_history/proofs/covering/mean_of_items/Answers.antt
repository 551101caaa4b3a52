use Rattle.std.proofs.Common.{ℕ, arith}
use Rattle.std.specs.Prelude.{slice_index}
use Rattle.ucis_model.specs.Paths.{node_at}
use Rattle.cov_history.specs.Coverage as meant
use Rattle.cov_history.specs.Flags.{flagged}
use Rattle.cov_history.proofs.Weighing.{mean_read, mean_done}
use Rattle.cov_history.proofs.covering.mean_of_items.Goals as goal

pub loop-item-preserved : goal.loop-item-preserved
loop-item-preserved c =
    let a = c.args in
    let w : ℕ → ℕ = λ m. (node_at a.nodes.now m).weight in
    let f : ℕ → ℕ = meant.item_coverage a.nodes.now (slice_index a.counts.now) (flagged a.excluded.now) in
    let inv = c.loop-item.invariant in
    let pairs = c.add_if.ensures.pairs in
    (mean_read w f (meant.has_live a.nodes.now (flagged a.excluded.now)) a.items.now c.loop-item.item-index _ c.in_ok-has.has c.said.result.weight c.in_ok-part.part c.loop-item.mean c.add_if.new.mean c.loop-item-test.true c.in_ok-has.ensures c.said.ensures.weight c.in_ok-part.ensures inv.0 c.add_if.ensures.sums, omega (arith, pairs, inv.1))

pub returns : goal.returns
returns c =
    let a = c.args in
    let w : ℕ → ℕ = λ m. (node_at a.nodes.now m).weight in
    let f : ℕ → ℕ = meant.item_coverage a.nodes.now (slice_index a.counts.now) (flagged a.excluded.now) in
    mean_done w f (meant.has_live a.nodes.now (flagged a.excluded.now)) a.items.now c.loop-item.item-index c.loop-item.mean c.get.result (omega (arith, c.loop-item-test.false)) c.loop-item.invariant.0 c.get.ensures
