use Rattle.std.proofs.Common.{◌≡◌, length}
use Rattle.cov_history.specs.History.{has}
use Rattle.history_answers.proofs.changes.has.Given as goal

abbrev pub invariant-loop-other : goal.invariant-loop-other
invariant-loop-other l = has l.path l.rest ≡ has l.path l.out

abbrev pub decreases-loop-other : goal.decreases-loop-other
decreases-loop-other l = length l.rest
