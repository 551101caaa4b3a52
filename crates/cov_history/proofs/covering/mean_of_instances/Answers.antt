use Rattle.std.proofs.Common.{ℕ, ap, arith, not}
use Rattle.std.specs.Prelude.{slice_index}
use Rattle.ucis_model.specs.Paths.{node_at}
use Rattle.cov_history.specs.Coverage as meant
use Rattle.cov_history.specs.Flags.{flagged}
use Rattle.cov_history.proofs.Weighing.{mean_read, mean_done}
use Rattle.cov_history.proofs.covering.mean_of_instances.Goals as goal

pub loop-inst-preserved : goal.loop-inst-preserved
loop-inst-preserved c =
    let a = c.args in
    let w : ℕ → ℕ = λ m. (node_at a.nodes.now m).weight in
    let f : ℕ → ℕ = meant.instance_coverage a.nodes.now (slice_index a.counts.now) (flagged a.excluded.now) in
    let inv = c.loop-inst.invariant in
    let pairs = c.add_if.ensures.pairs in
    (mean_read w f (λ m. not (flagged a.excluded.now m)) a.instances.now c.loop-inst.inst-index _ (not c.flag-is_in.result) c.said.result.weight c.in_ok-part.part c.loop-inst.mean c.add_if.new.mean c.loop-inst-test.true (ap not c.flag-is_in.ensures) c.said.ensures.weight c.in_ok-part.ensures inv.0 c.add_if.ensures.sums, omega (arith, pairs, inv.1))

pub returns : goal.returns
returns c =
    let a = c.args in
    let w : ℕ → ℕ = λ m. (node_at a.nodes.now m).weight in
    let f : ℕ → ℕ = meant.instance_coverage a.nodes.now (slice_index a.counts.now) (flagged a.excluded.now) in
    mean_done w f (λ m. not (flagged a.excluded.now m)) a.instances.now c.loop-inst.inst-index c.loop-inst.mean c.get.result (omega (arith, c.loop-inst-test.false)) c.loop-inst.invariant.0 c.get.ensures
