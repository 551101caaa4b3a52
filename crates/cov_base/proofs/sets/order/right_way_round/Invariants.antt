use Rattle.std.proofs.Common.{◌≡◌, ℤ, All, drop}
use Rattle.std.specs.Prelude.{◌||◌}
use Rattle.cov_base.specs.Sets.{covers}
use Rattle.cov_base.specs.Intervals.{IsRange}
use Rattle.cov_base.proofs.sets.order.right_way_round.Given as goal

abbrev pub invariant-loop-range : goal.invariant-loop-range
invariant-loop-range l = record {
  ranges : All IsRange l.kept.items;
  same : (v : ℤ) → (covers l.kept.items v || covers (drop l.range-index l.ranges) v) ≡ covers l.ranges v;
}
