use Rattle.std.proofs.Common.{◌≡◌, ◌≤◌, ◌*◌, ◌^◌, length, filter, take}
use Rattle.cov_base.specs.Sets.{written}
use Rattle.wildcard_bins.specs.Patterns.{agrees}
use Rattle.wildcard_counts.proofs.counts.count_in.Given as goal

abbrev pub invariant-loop-interval : goal.invariant-loop-interval
invariant-loop-interval l = record {
  count : l.count ≡ length (filter (agrees l.pattern) (written (take l.interval-index l.set)));
  room : l.count ≤ l.interval-index * 2 ^ 64;
}
