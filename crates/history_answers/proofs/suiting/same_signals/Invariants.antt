use Rattle.std.proofs.Common.{◌≡◌, length}
use Rattle.cov_history.specs.Tables.{agree, same_signal}
use Rattle.history_answers.proofs.suiting.same_signals.Given as goal

abbrev pub invariant-loop-signal : goal.invariant-loop-signal
invariant-loop-signal l = agree same_signal l.rest l.left ≡ agree same_signal l.signals l.others

abbrev pub decreases-loop-signal : goal.decreases-loop-signal
decreases-loop-signal l = length l.rest
