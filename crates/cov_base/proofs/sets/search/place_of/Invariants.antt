use Rattle.cov_base.proofs.Search.{Found}
use Rattle.cov_base.proofs.sets.search.place_of.Given as goal

abbrev pub invariant-loop-size : goal.invariant-loop-size
invariant-loop-size l = Found l.intervals l.v l.base l.size

abbrev pub decreases-loop-size : goal.decreases-loop-size
decreases-loop-size l = l.size
