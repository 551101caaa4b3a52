use Rattle.std.proofs.Common.{◌∙◌}
use Rattle.cov_history.specs.Answers.{cover_row}
use Rattle.store_parts.proofs.Standing.{same_count, same_excluded}
use Rattle.merge_store.proofs.store.Store.cover_row.Goals as goal

pub returns : goal.returns
returns c = let k = c.args.self.now.keeps in c.in_ok-row.ensures ∙ (λ i. cover_row (k.nodes_are i) (same_count k i) (same_excluded k i) c.args.node)
