use Rattle.std.proofs.Common.{◌≡◌}
use Rattle.std.specs.Prelude.{filter}
use Rattle.std.specs.List.{range_with_len}
use Rattle.ucis_model.specs.Paths.{node_at}
use Rattle.cov_history.specs.Nodes.{is_bin}
use Rattle.store_sums.proofs.branches.bins_of.Given as goal

abbrev pub invariant-loop-place : goal.invariant-loop-place
invariant-loop-place l = l.bins.items ≡ filter (λ n. is_bin (node_at l.nodes n).kind) (range_with_len 0 l.place)
