use Rattle.std.proofs.Common.{◌≡◌, ◌∙◌, ap, sym, inl, refl, Some, List, ℕ}
use Rattle.tally.specs.Rows.{count_in}
use Rattle.ucis_model.specs.declared.node.Node.{Node}
use Rattle.ucis_model.specs.Paths.{find_in}
use Rattle.cov_history.specs.Nodes.{bins_under}
use Rattle.cov_history.specs.History.{design_of, hits, kept}
use Rattle.cov_history.specs.Answers.{rows}
use Rattle.store_parts.specs.Words.{test_of}
use Rattle.store_sums.specs.Now.{nodes_now as sums_nodes, excluded_now}
use Rattle.merge_store.specs.Now.{nodes_now}
use Rattle.merge_store.specs.Stores.{opening_of, entries_of}
use Rattle.store_parts.proofs.Standing.{same_excluded}
use Rattle.store_parts.proofs.Tallied.{counted}
use Rattle.merge_store.proofs.store.Store.test_counts.Goals as goal

pub returns-in-Ok : goal.returns-in-Ok
returns-in-Ok c =
    let s = c.args.self.now in
    let h = entries_of s in
    let d = design_of (opening_of s) h in
    let t = test_of c.in-Some.test.now in
    let there : kept h c.args.id.now ≡ Some t = sym c.in-Some.ensures.test in
    let found : find_in (nodes_now s) c.args.path.now ≡ Some c.in-Some-find.node = ap (λ (ns : List Node). find_in ns c.args.path.now) (sym s.keeps.nodes_are) ∙ sym c.in-Some-find.ensures in
    let count : (bin : ℕ) → count_in c.deref.result.now bin ≡ hits d t.content bin = λ bin. ap (λ (rs : List (ℕ × ℕ)). count_in rs bin) (c.deref.ensures ∙ c.in-Some.ensures.tally) ∙ counted d t.content bin in
    inl (c.in-Ok.ensures ∙ ap (λ (bins : List ℕ). rows (sums_nodes s.sums) (count_in c.deref.result.now) (excluded_now s.sums) c.args.first bins) c.bins_under.ensures.bins
    ∙ (λ i. rows (s.keeps.nodes_are i) (λ bin. count bin i) (same_excluded s.keeps i) c.args.first (bins_under (s.keeps.nodes_are i) c.in-Some-find.node))
    ∙ sym (rw (there, found) refl))
