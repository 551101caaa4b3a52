use Rattle.std.proofs.Common.{◌≡◌, ◌++◌, ◌+ℤ◌, pos, drop}
use Rattle.cov_base.specs.Sets.{least, greatest, IsNormalFrom, EndsBy}
use Rattle.cov_base.specs.Intervals.{starts, total}
use Rattle.cov_base.proofs.sets.counts.count.Given as goal

abbrev pub invariant-loop-range : goal.invariant-loop-range
invariant-loop-range l = record {
  starts : l.starts.items ++ starts l.total (drop l.range-index l.intervals) ≡ starts 0 l.intervals;
  total : total l.total (drop l.range-index l.intervals) ≡ total 0 l.intervals;
  room : IsNormalFrom (least +ℤ pos l.total) (drop l.range-index l.intervals);
  ends : EndsBy greatest (drop l.range-index l.intervals);
}
