use Rattle.std.proofs.Common.{◌∙◌, ap, inl, List, ℕ}
use Rattle.cov_history.specs.Answers.{rows, illegal_hit}
use Rattle.store_sums.specs.Now.{nodes_now, count_now, excluded_now}
use Rattle.store_parts.proofs.Standing.{same_count, same_excluded}
use Rattle.merge_store.proofs.store.Store.illegal.Goals as goal

pub returns : goal.returns
returns c =
    let s = c.args.self.now in
    let k = s.keeps in
    inl (c.in_ok-rows.ensures ∙ ap (λ (bins : List ℕ). rows (nodes_now s.sums) (count_now s.sums) (excluded_now s.sums) c.args.first bins) (c.as_slice.ensures.value ∙ c.in_ok-bins.ensures.bins)
    ∙ (λ i. rows (k.nodes_are i) (same_count k i) (same_excluded k i) c.args.first (illegal_hit (k.nodes_are i) (same_count k i))))
