use Rattle.std.proofs.Common.{◌+◌, ◌≤◌, length}
use Rattle.value_bins.specs.Clips.{EndBelow}
use Rattle.value_bins.proofs.within.count_below.Given as goal

abbrev pub invariant-loop-size : goal.invariant-loop-size
invariant-loop-size l = record {
  within : l.from + l.size ≤ length l.intervals;
  below : EndBelow l.low l.intervals l.from;
}

abbrev pub decreases-loop-size : goal.decreases-loop-size
decreases-loop-size l = l.size
