use Rattle.std.proofs.Common.{◌≡◌, ◌+◌, ◌*◌, ◌^◌, ◌≤◌, length, drop}
use Rattle.cov_base.specs.Sets.{written}
use Rattle.value_bins.proofs.ranges.count_of.Given as goal

abbrev pub invariant-loop-range : goal.invariant-loop-range
invariant-loop-range l = record {
  counted : l.count + length (written (drop l.range-index l.ranges)) ≡ length (written l.ranges);
  bound : l.count ≤ l.range-index * (3 * 2 ^ 63);
}
