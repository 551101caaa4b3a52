use Rattle.std.proofs.Common.{◌≡◌, ◌∙◌, ap, sym, inl, refl, Some, List, ℕ}
use Rattle.ucis_model.specs.declared.node.Node.{Node}
use Rattle.ucis_model.specs.Paths.{find_in}
use Rattle.cov_history.specs.Nodes.{bins_under}
use Rattle.cov_history.specs.Answers.{rows}
use Rattle.store_sums.specs.Now.{nodes_now as sums_nodes, count_now, excluded_now}
use Rattle.merge_store.specs.Now.{nodes_now}
use Rattle.store_parts.proofs.Standing.{same_count, same_excluded}
use Rattle.merge_store.proofs.store.Store.counts.Goals as goal

pub returns-in-Ok : goal.returns-in-Ok
returns-in-Ok c =
    let s = c.args.self.now in
    let k = s.keeps in
    let found : find_in (nodes_now s) c.args.path.now ≡ Some c.in-Some.node = ap (λ (ns : List Node). find_in ns c.args.path.now) (sym k.nodes_are) ∙ sym c.in-Some.ensures in
    inl (c.in-Ok.ensures ∙ ap (λ (bins : List ℕ). rows (sums_nodes s.sums) (count_now s.sums) (excluded_now s.sums) c.args.first bins) c.bins_under.ensures.bins
    ∙ (λ i. rows (k.nodes_are i) (same_count k i) (same_excluded k i) c.args.first (bins_under (k.nodes_are i) c.in-Some.node))
    ∙ sym (rw found refl))
