use Rattle.trans_found.proofs.Ahead.{FrontSo}
use Rattle.trans_lists.proofs.spread.front_of.Given as goal

abbrev pub invariant-loop-size : goal.invariant-loop-size
invariant-loop-size l = FrontSo l.items l.size l.once.items
