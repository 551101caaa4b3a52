use Rattle.rank_report.proofs.Greatest.{Greatest}
use Rattle.rank_report.proofs.ranking.best.Given as goal

abbrev pub invariant-loop-index : goal.invariant-loop-index
invariant-loop-index l = Greatest l.gains l.taken l.index l.best
