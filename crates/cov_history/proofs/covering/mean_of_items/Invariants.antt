use Rattle.std.proofs.Common.{◌≡◌, ◌≤◌}
use Rattle.std.specs.Prelude.{slice_index}
use Rattle.percent.specs.Millionths.{sums}
use Rattle.ucis_model.specs.Paths.{node_at}
use Rattle.cov_history.specs.Coverage as meant
use Rattle.cov_history.specs.Flags.{flagged}
use Rattle.cov_history.proofs.Weighing.{weighed_to}
use Rattle.cov_history.proofs.covering.mean_of_items.Given as goal

abbrev pub invariant-loop-item : goal.invariant-loop-item
invariant-loop-item l =
    (l.mean ≡ sums (weighed_to (λ m. (node_at l.nodes m).weight) (meant.item_coverage l.nodes (slice_index l.counts) (flagged l.excluded)) (meant.has_live l.nodes (flagged l.excluded)) l.items l.item-index))
    × (l.mean.pairs ≤ l.item-index)
