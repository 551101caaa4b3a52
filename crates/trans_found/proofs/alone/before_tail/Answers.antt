use Rattle.std.proofs.Common.{arith}
use Rattle.trans_found.proofs.AloneLemmas.{ordered_next, ordered_all}
use Rattle.trans_found.proofs.alone.before_tail.Goals as goal
use Rattle.trans_found.proofs.alone.before_tail.Goals.{then-has_more, else-has_more}

pub loop-k-preserved : goal.loop-k-preserved
loop-k-preserved c = record {
  within = elim c.if-has_more.branch [
    | then-has_more w ↦ omega (arith, w.size-is)
    | else-has_more w ↦ omega (arith, w.size-is, c.loop-k.invariant.within)
  ];
  ordered = ordered_next c.args.items.now c.loop-k.k c.index-items-k.result (omega arith) c.index-items-k.is c.has_more.ensures c.loop-k.invariant.ordered;
}

pub returns-clause-ordered : goal.returns-clause-ordered
returns-clause-ordered c = ordered_all c.args.items.now c.loop-k.k (omega arith) c.loop-k.invariant.ordered
