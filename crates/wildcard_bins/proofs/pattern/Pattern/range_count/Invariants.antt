use Rattle.std.proofs.Common.{◌≡◌, ◌-◌, ◌^◌, ◌≤◌}
use Rattle.wildcard_bins.specs.Halves.{count_above}
use Rattle.wildcard_bins.proofs.pattern.Pattern.range_count.Given as goal

abbrev pub invariant-loop-place : goal.invariant-loop-place
invariant-loop-place l = record {
  count : l.count ≡ count_above l.self l.first (l.place - l.first);
  bound : l.count ≤ 2 ^ (l.place - l.first - 1);
}
