use Rattle.std.proofs.Common.{◌≡◌, ◌+◌, length}
use Rattle.cov_history.specs.Tables.{same_signal}
use Rattle.session_table.specs.Contents.{apart}
use Rattle.session_table.proofs.tables.signals_apart.Given as goal

abbrev pub invariant-loop-signal : goal.invariant-loop-signal
invariant-loop-signal l = record {
  place : apart same_signal l.at l.rest l.left ≡ apart same_signal 0 l.signals l.others;
  long : l.at + length l.left ≡ length l.others;
}

abbrev pub decreases-loop-signal : goal.decreases-loop-signal
decreases-loop-signal l = length l.rest
