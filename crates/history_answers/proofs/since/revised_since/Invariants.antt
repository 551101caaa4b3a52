use Rattle.std.proofs.Common.{◌≡◌, length}
use Rattle.std.specs.List.{list_any}
use Rattle.cov_history.specs.History.{is_revise}
use Rattle.cov_history.specs.Answers.{stands_since}
use Rattle.history_answers.proofs.since.revised_since.Given as goal

abbrev pub invariant-loop-entry : goal.invariant-loop-entry
invariant-loop-entry l = list_any (λ e. is_revise e.event) l.rest ≡ stands_since is_revise l.entries l.since

abbrev pub decreases-loop-entry : goal.decreases-loop-entry
decreases-loop-entry l = length l.rest
