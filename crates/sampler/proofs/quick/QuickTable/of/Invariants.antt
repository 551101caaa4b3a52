use Rattle.sampler.specs.Quick.{AreQuickUpTo}
use Rattle.sampler.proofs.quick.QuickTable.of.Given as goal

abbrev pub invariant-loop-j : goal.invariant-loop-j
invariant-loop-j l = AreQuickUpTo l.j l.rec l.instances l.plans l.share l.exprs.items l.lists
