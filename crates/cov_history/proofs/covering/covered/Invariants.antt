use Rattle.std.proofs.Common.{◌≡◌, ◌≤◌, take}
use Rattle.std.specs.Prelude.{count_by, slice_index}
use Rattle.cov_history.specs.Coverage as meant
use Rattle.cov_history.proofs.covering.covered.Given as goal

abbrev pub invariant-loop-bin : goal.invariant-loop-bin
invariant-loop-bin l = (l.covered ≡ count_by (meant.is_covered l.nodes (slice_index l.counts)) (take l.bin-index l.bins)) × (l.covered ≤ l.bin-index)
