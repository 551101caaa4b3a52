use Rattle.std.proofs.Common.{◌∙◌}
use Rattle.cov_history.specs.Coverage.{count_at}
use Rattle.store_parts.proofs.Standing.{same_count}
use Rattle.merge_store.proofs.store.Store.count.Goals as goal

pub returns : goal.returns
returns c = let k = c.args.self.now.keeps in c.count.ensures ∙ (λ i. count_at (k.nodes_are i) (same_count k i) c.args.node)
