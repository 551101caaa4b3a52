use Rattle.std.proofs.Common.{◌≡◌, ◌≤◌, length, map}
use Rattle.std.specs.List.{range_with_len}
use Rattle.cov_history.specs.Coverage as meant
use Rattle.cov_history.proofs.flags.excluded_nodes.Given as goal

abbrev pub invariant-loop-place : goal.invariant-loop-place
invariant-loop-place l = (l.flags.items ≡ map (meant.is_excluded l.tree l.out) (range_with_len 0 l.place)) × (l.place ≤ l.place-end) × (l.place-end ≡ length l.tree)
