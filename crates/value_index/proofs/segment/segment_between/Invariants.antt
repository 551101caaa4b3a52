use Rattle.std.proofs.Common.{◌<◌, length, slice_index, ℕ, ◌+◌, ◌≤◌}
use Rattle.value_index.proofs.segment.segment_between.Given as goal

abbrev pub invariant-loop-size : goal.invariant-loop-size
invariant-loop-size l = record {
  some : 1 ≤ l.size;
  within : l.base + l.size ≤ length l.cuts;
  below : slice_index l.cuts l.base ≤ l.v;
  above : (t : ℕ) → l.base + l.size ≤ t → t < length l.cuts → l.v < slice_index l.cuts t;
}

abbrev pub decreases-loop-size : goal.decreases-loop-size
decreases-loop-size l = l.size
