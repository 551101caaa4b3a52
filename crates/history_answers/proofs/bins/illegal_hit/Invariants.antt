use Rattle.std.proofs.Common.{◌≡◌, ◌++◌, length}
use Rattle.std.specs.Prelude.{filter, slice_index, nat_lt, ◌&&◌}
use Rattle.cov_history.specs.Nodes.{is_illegal, kind_of_bin}
use Rattle.cov_history.specs.Coverage.{count_at}
use Rattle.history_answers.proofs.bins.illegal_hit.Given as goal

abbrev pub invariant-loop-bin : goal.invariant-loop-bin
invariant-loop-bin l = l.hit.items ++ filter (λ n. is_illegal (kind_of_bin l.nodes n) && nat_lt 0 (count_at l.nodes (slice_index l.counts) n)) l.rest ≡ filter (λ n. is_illegal (kind_of_bin l.nodes n) && nat_lt 0 (count_at l.nodes (slice_index l.counts) n)) l.bins

abbrev pub decreases-loop-bin : goal.decreases-loop-bin
decreases-loop-bin l = length l.rest
