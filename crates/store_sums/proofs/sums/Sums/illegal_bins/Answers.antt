use Rattle.std.proofs.Common.{ap, length, List, ℕ, Bool, ◌∙◌, arith, ◌&&◌, nat_lt}
use Rattle.ucis_model.specs.declared.node.Node.{Node}
use Rattle.cov_history.specs.Nodes.{is_illegal, kind_of_bin, bin_nodes}
use Rattle.cov_history.specs.Coverage.{count_at}
use Rattle.store_sums.specs.Now.{nodes_now, count_now}
use Rattle.store_sums.proofs.Walks.{few_kept}
use Rattle.store_sums.proofs.sums.Sums.illegal_bins.Goals as goal

pub returns-clause-few : goal.returns-clause-few
returns-clause-few c =
    let s = c.args.self.now in
    let p : ℕ → Bool = λ n. is_illegal (kind_of_bin (nodes_now s) n) && nat_lt 0 (count_at (nodes_now s) (count_now s) n) in
    let e = ap (λ (xs : List ℕ). length xs) c.loop-bin.invariant in
    let f = few_kept p (bin_nodes (nodes_now s)) c.loop-bin.bin-index in
    let b = ap (λ (xs : List ℕ). length xs) (c.bins-bin-items.ensures.bins ∙ ap (λ (ns : List Node). bin_nodes ns) s.nodes_are) in
    omega (arith, e, f, b, c.bins-bin-items.ensures.few)
