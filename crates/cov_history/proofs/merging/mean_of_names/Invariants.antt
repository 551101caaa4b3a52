use Rattle.std.proofs.Common.{◌≡◌, ℕ, ◌≤◌, List, true}
use Rattle.std.specs.Prelude.{slice_index}
use Rattle.percent.specs.Millionths.{sums}
use Rattle.cov_history.specs.Coverage as meant
use Rattle.cov_history.proofs.Weighing.{weighed_to}
use Rattle.cov_history.proofs.merging.mean_of_names.Given as goal

abbrev pub invariant-loop-name : goal.invariant-loop-name
invariant-loop-name l = (l.mean ≡ sums (weighed_to (λ (name : List ℕ). meant.type_weight l.nodes (meant.named (meant.item_name l.nodes) name l.bins)) (λ (name : List ℕ). meant.merged_item l.nodes (slice_index l.counts) (meant.named (meant.item_name l.nodes) name l.bins)) (λ name. true) l.names l.name-index)) × (l.mean.pairs ≤ l.name-index)
