use Rattle.std.proofs.Common.{◌≡◌, ◌++◌, map, length}
use Rattle.std.specs.Prelude.{slice_index}
use Rattle.cov_history.specs.Coverage.{is_excluded}
use Rattle.cov_history.specs.Answers.{count_row}
use Rattle.history_answers.proofs.rows.count_rows.Given as goal

abbrev pub invariant-loop-bin : goal.invariant-loop-bin
invariant-loop-bin l = l.rows.items ++ map (count_row l.tree (slice_index l.counts) (is_excluded l.tree l.out)) l.rest ≡ map (count_row l.tree (slice_index l.counts) (is_excluded l.tree l.out)) l.bins

abbrev pub decreases-loop-bin : goal.decreases-loop-bin
decreases-loop-bin l = length l.rest
