use Rattle.std.proofs.Common.{◌≡◌, ◌≤◌, not}
use Rattle.std.specs.Prelude.{slice_index}
use Rattle.percent.specs.Millionths.{sums}
use Rattle.ucis_model.specs.Paths.{node_at}
use Rattle.cov_history.specs.Coverage as meant
use Rattle.cov_history.specs.Flags.{flagged}
use Rattle.cov_history.proofs.Weighing.{weighed_to}
use Rattle.cov_history.proofs.covering.mean_of_instances.Given as goal

abbrev pub invariant-loop-inst : goal.invariant-loop-inst
invariant-loop-inst l =
    (l.mean ≡ sums (weighed_to (λ m. (node_at l.nodes m).weight) (meant.instance_coverage l.nodes (slice_index l.counts) (flagged l.excluded)) (λ m. not (flagged l.excluded m)) l.instances l.inst-index))
    × (l.mean.pairs ≤ l.inst-index)
