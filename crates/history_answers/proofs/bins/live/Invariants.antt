use Rattle.std.proofs.Common.{◌≡◌, ◌++◌, length}
use Rattle.std.specs.Prelude.{filter}
use Rattle.cov_history.specs.Coverage.{is_live, is_excluded}
use Rattle.history_answers.proofs.bins.live.Given as goal

abbrev pub invariant-loop-bin : goal.invariant-loop-bin
invariant-loop-bin l = l.live.items ++ filter (is_live l.tree (is_excluded l.tree l.out)) l.rest ≡ filter (is_live l.tree (is_excluded l.tree l.out)) l.bins

abbrev pub decreases-loop-bin : goal.decreases-loop-bin
decreases-loop-bin l = length l.rest
