use Rattle.std.proofs.Common.{◌≡◌, ◌≤◌, ◌&&◌, ◌==◌, length, nat_lt}
use Rattle.std.specs.Prelude.{filter}
use Rattle.std.specs.List.{range_with_len}
use Rattle.ucis_model.specs.Paths.{node_at}
use Rattle.cov_history.proofs.covering.children.Given as goal

abbrev pub invariant-loop-place : goal.invariant-loop-place
invariant-loop-place l = (l.below.items ≡ filter (λ m. nat_lt 0 m && ((node_at l.nodes m).parent == l.above)) (range_with_len 0 l.place)) × (l.place ≤ l.place-end) × (l.place-end ≡ length l.nodes)
