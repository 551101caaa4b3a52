use Rattle.std.proofs.Common.{◌≡◌, ◌∙◌, ap, map, length, arith, List, ℕ}
use Rattle.std.specs.Prelude.{filter}
use Rattle.ucis_model.specs.declared.node.Node.{Node}
use Rattle.ucis_model.specs.Paths.{node_at}
use Rattle.cov_history.specs.Nodes.{bins_under}
use Rattle.cov_history.specs.Coverage.{is_excluded, is_live, live_under}
use Rattle.cov_history.specs.History.{out_of}
use Rattle.std.proofs.lemmas.List.{length-map}
use Rattle.cov_history.proofs.Weighing.{few_live, few_bins}
use Rattle.history_answers.proofs.ranks.wanted.Goals as goal

pub returns-clause-wanted : goal.returns-clause-wanted
returns-clause-wanted c =
    let nodes = c.args.tree.now in
    let o : c.as_slice-2.result.now ≡ out_of c.args.entries.now = c.as_slice-2.ensures.value ∙ c.in_ok-out.ensures in
    let u : c.bins_under-under.result.now ≡ bins_under nodes 0 = c.bins_under-under.ensures.bins ∙ ap (λ (ns : List Node). bins_under ns 0) c.nodes-2.ensures in
    let v : c.as_slice-3.result.now ≡ live_under nodes (is_excluded nodes (out_of c.args.entries.now)) 0 = c.as_slice-3.ensures.value ∙ c.in_ok-live.ensures ∙ (λ i. filter (is_live nodes (is_excluded nodes (o i))) (u i)) in
    c.in_ok-wanted.ensures ∙ (λ i. map (λ n. ((node_at (c.nodes-3.ensures i) n).first_bin, (node_at (c.nodes-3.ensures i) n).at_least)) (v i))

pub returns-clause-few : goal.returns-clause-few
returns-clause-few c =
    let nodes = c.args.tree.now in
    let o : c.as_slice-2.result.now ≡ out_of c.args.entries.now = c.as_slice-2.ensures.value ∙ c.in_ok-out.ensures in
    let u : c.bins_under-under.result.now ≡ bins_under nodes 0 = c.bins_under-under.ensures.bins ∙ ap (λ (ns : List Node). bins_under ns 0) c.nodes-2.ensures in
    let v : c.as_slice-3.result.now ≡ live_under nodes (is_excluded nodes (out_of c.args.entries.now)) 0 = c.as_slice-3.ensures.value ∙ c.in_ok-live.ensures ∙ (λ i. filter (is_live nodes (is_excluded nodes (o i))) (u i)) in
    let a = ap (λ (ps : List (ℕ × ℕ)). length ps) c.in_ok-wanted.ensures in
    let b = length-map {B = ℕ × ℕ} c.as_slice-3.result.now (λ n. ((node_at c.nodes-3.result.now n).first_bin, (node_at c.nodes-3.result.now n).at_least)) in
    let l = ap (λ (ns : List ℕ). length ns) v in
    let f = few_live nodes (is_excluded nodes (out_of c.args.entries.now)) 0 in
    let g = few_bins nodes in
    let most = c.requires in
    omega (arith, a, b, l, f, g, most)
