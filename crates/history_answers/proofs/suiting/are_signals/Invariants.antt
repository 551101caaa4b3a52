use Rattle.std.proofs.Common.{◌≡◌, length}
use Rattle.cov_history.specs.Tables.{agree, is_signal}
use Rattle.history_answers.proofs.suiting.are_signals.Given as goal

abbrev pub invariant-loop-row : goal.invariant-loop-row
invariant-loop-row l = agree is_signal l.rest l.left ≡ agree is_signal l.rows l.signals

abbrev pub decreases-loop-row : goal.decreases-loop-row
decreases-loop-row l = length l.rest
