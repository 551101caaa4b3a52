use Rattle.std.proofs.Common.{◌≤◌, take}
use Rattle.trans_found.specs.Alone.{AreOrdered}
use Rattle.trans_found.proofs.alone.before_tail.Given as goal

abbrev pub invariant-loop-k : goal.invariant-loop-k
invariant-loop-k l = record {
  within : l.size ≤ l.k;
  ordered : AreOrdered (take l.k l.items);
}
