use Rattle.std.proofs.Common.{◌≡◌, ◌++◌, drop}
use Rattle.cov_base.specs.Intervals.{pieces, beyond}
use Rattle.cov_base.proofs.sets.merge.cut.Given as goal

abbrev pub invariant-loop-i : goal.invariant-loop-i
invariant-loop-i l = record {
  pieces : l.out.items ++ pieces (l.low, l.high) (drop l.i l.holes) ≡ l.initial.out.items ++ pieces l.fn.piece l.holes;
  rest : beyond l.high (drop l.i l.holes) ≡ beyond l.high l.holes;
}
