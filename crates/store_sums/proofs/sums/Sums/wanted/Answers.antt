use Rattle.std.proofs.Common.{ap, length, List, ℕ, arith}
use Rattle.std.proofs.lemmas.List.{length-map}
use Rattle.std.specs.Prelude.{filter, take}
use Rattle.ucis_model.specs.Paths.{node_at}
use Rattle.cov_history.specs.Nodes.{bins_under}
use Rattle.cov_history.specs.Coverage.{is_live}
use Rattle.store_sums.specs.Now.{nodes_now, excluded_now}
use Rattle.store_sums.proofs.Walks.{mapped_more, few_kept}
use Rattle.store_sums.proofs.sums.Sums.wanted.Goals as goal

pub loop-bin-preserved : goal.loop-bin-preserved
loop-bin-preserved c =
    let s = c.args.self.now in
    mapped_more (λ n. ((node_at (nodes_now s) n).first_bin, (node_at (nodes_now s) n).at_least)) (is_live (nodes_now s) (excluded_now s)) c.bins_under-bin-items.result.now (bins_under (nodes_now s) 0) c.loop-bin.bin-index _ c.loop-bin.wanted.items c.push_wanted.new.wanted.items c.bins_under-bin-items.ensures.bins c.loop-bin-test.true c.loop-bin.invariant c.in_ok-push_wanted.ensures

pub returns-clause-few : goal.returns-clause-few
returns-clause-few c =
    let s = c.args.self.now in
    let f : ℕ → ℕ × ℕ = λ n. ((node_at (nodes_now s) n).first_bin, (node_at (nodes_now s) n).at_least) in
    let xs = filter (is_live (nodes_now s) (excluded_now s)) (take c.loop-bin.bin-index (bins_under (nodes_now s) 0)) in
    let e = ap (λ (ps : List (ℕ × ℕ)). length ps) c.loop-bin.invariant in
    let m = length-map xs f in
    let k = few_kept (is_live (nodes_now s) (excluded_now s)) (bins_under (nodes_now s) 0) c.loop-bin.bin-index in
    let b = ap (λ (ys : List ℕ). length ys) c.bins_under-bin-items.ensures.bins in
    omega (arith, e, m, k, b, c.bins_under-bin-items.ensures.few)
