use Rattle.std.proofs.Common.{◌≡◌, drop}
use Rattle.cov_base.specs.Intervals.{joins, before, after}
use Rattle.cov_base.proofs.sets.merge.join_before.Given as goal

abbrev pub invariant-loop-i : goal.invariant-loop-i
invariant-loop-i l = record {
  joined : joins l.out.items (before l.low (drop l.i l.ranges)) ≡ joins l.initial.out.items (before l.low l.ranges);
  rest : after l.low (drop l.i l.ranges) ≡ after l.low l.ranges;
}
