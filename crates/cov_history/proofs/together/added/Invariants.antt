use Rattle.std.proofs.Common.{◌≡◌, ◌+◌, ◌≤◌, length, map}
use Rattle.std.specs.Prelude.{slice_index}
use Rattle.std.specs.List.{range_with_len}
use Rattle.cov_history.proofs.together.added.Given as goal

abbrev pub invariant-loop-bin : goal.invariant-loop-bin
invariant-loop-bin l = (l.both.items ≡ map (λ bin. slice_index l.sums bin + slice_index l.counts bin) (range_with_len 0 l.bin)) × (l.bin ≤ l.bin-end) × (l.bin-end ≡ length l.sums)
