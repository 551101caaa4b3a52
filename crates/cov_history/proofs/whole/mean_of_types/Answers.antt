use Rattle.std.proofs.Common.{ℕ, ap, arith, not}
use Rattle.std.specs.Prelude.{slice_index}
use Rattle.ucis_model.specs.Paths.{node_at}
use Rattle.cov_history.specs.Coverage as meant
use Rattle.cov_history.specs.Flags.{flagged}
use Rattle.cov_history.proofs.Weighing.{mean_read, mean_done}
use Rattle.cov_history.proofs.whole.mean_of_types.Goals as goal

pub loop-group-preserved : goal.loop-group-preserved
loop-group-preserved c =
    let a = c.args in
    let w : ℕ → ℕ = λ m. (node_at a.nodes.now m).weight in
    let f : ℕ → ℕ = meant.type_coverage a.nodes.now (slice_index a.counts.now) (flagged a.excluded.now) in
    let inv = c.loop-group.invariant in
    let pairs = c.add_if.ensures.pairs in
    (mean_read w f (λ m. not (flagged a.excluded.now m)) a.types.now c.loop-group.group-index _ (not c.flag-is_in.result) c.said.result.weight c.in_ok-part.part c.loop-group.mean c.add_if.new.mean c.loop-group-test.true (ap not c.flag-is_in.ensures) c.said.ensures.weight c.in_ok-part.ensures inv.0 c.add_if.ensures.sums, omega (arith, pairs, inv.1))

pub returns : goal.returns
returns c =
    let a = c.args in
    let w : ℕ → ℕ = λ m. (node_at a.nodes.now m).weight in
    let f : ℕ → ℕ = meant.type_coverage a.nodes.now (slice_index a.counts.now) (flagged a.excluded.now) in
    mean_done w f (λ m. not (flagged a.excluded.now m)) a.types.now c.loop-group.group-index c.loop-group.mean c.get.result (omega (arith, c.loop-group-test.false)) c.loop-group.invariant.0 c.get.ensures
