use Rattle.std.proofs.Common.{◌≡◌, ◌*◌, ◌≤◌, take}
use Rattle.std.specs.Prelude.{slice_index, sum_by, ◌^◌}
use Rattle.cov_history.specs.Coverage as meant
use Rattle.cov_history.proofs.merging.total.Given as goal

abbrev pub invariant-loop-bin : goal.invariant-loop-bin
invariant-loop-bin l = (l.total ≡ sum_by (meant.count_at l.nodes (slice_index l.counts)) (take l.bin-index l.bins)) × (l.total ≤ l.bin-index * 2 ^ 64)
