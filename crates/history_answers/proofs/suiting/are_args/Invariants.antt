use Rattle.std.proofs.Common.{◌≡◌, length}
use Rattle.cov_history.specs.Tables.{agree, is_arg}
use Rattle.history_answers.proofs.suiting.are_args.Given as goal

abbrev pub invariant-loop-row : goal.invariant-loop-row
invariant-loop-row l = agree is_arg l.rest l.left ≡ agree is_arg l.rows l.args

abbrev pub decreases-loop-row : goal.decreases-loop-row
decreases-loop-row l = length l.rest
