use Rattle.std.proofs.Common.{◌≡◌, ◌≤◌, not}
use Rattle.std.specs.Prelude.{slice_index}
use Rattle.percent.specs.Millionths.{sums}
use Rattle.ucis_model.specs.Paths.{node_at}
use Rattle.cov_history.specs.Coverage as meant
use Rattle.cov_history.specs.Flags.{flagged}
use Rattle.cov_history.proofs.Weighing.{weighed_to}
use Rattle.cov_history.proofs.whole.mean_of_types.Given as goal

abbrev pub invariant-loop-group : goal.invariant-loop-group
invariant-loop-group l =
    (l.mean ≡ sums (weighed_to (λ m. (node_at l.nodes m).weight) (meant.type_coverage l.nodes (slice_index l.counts) (flagged l.excluded)) (λ m. not (flagged l.excluded m)) l.types l.group-index))
    × (l.mean.pairs ≤ l.group-index)
