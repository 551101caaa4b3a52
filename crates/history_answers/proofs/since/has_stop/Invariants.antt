use Rattle.std.proofs.Common.{◌≡◌, length}
use Rattle.cov_history.specs.History.{has_stop}
use Rattle.history_answers.proofs.since.has_stop.Given as goal

abbrev pub invariant-loop-entry : goal.invariant-loop-entry
invariant-loop-entry l = has_stop l.rest ≡ has_stop l.entries

abbrev pub decreases-loop-entry : goal.decreases-loop-entry
decreases-loop-entry l = length l.rest
