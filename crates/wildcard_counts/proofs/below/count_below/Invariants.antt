use Rattle.std.proofs.Common.{◌≡◌, ◌≤◌, ◌%◌, ◌^◌}
use Rattle.wildcard_counts.specs.Distances.{met_below}
use Rattle.wildcard_counts.proofs.below.count_below.Given as goal

abbrev pub invariant-loop-place : goal.invariant-loop-place
invariant-loop-place l = record {
  all : l.met.all ≡ met_below l.pattern l.place (2 ^ l.place);
  below : l.met.below ≡ met_below l.pattern l.place (l.bound % 2 ^ l.place);
  most : l.met.all ≤ 2 ^ l.place;
  few : l.met.below ≤ 2 ^ l.place;
}
