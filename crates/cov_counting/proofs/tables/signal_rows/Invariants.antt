use Rattle.std.proofs.Common.{◌≡◌, ◌++◌, length, map}
use Rattle.cov_counting.specs.Tables.{signal_row}
use Rattle.cov_counting.proofs.tables.signal_rows.Given as goal

abbrev pub invariant-loop-signal : goal.invariant-loop-signal
invariant-loop-signal l = l.rows ++ map signal_row l.rest ≡ map signal_row l.signals

abbrev pub decreases-loop-signal : goal.decreases-loop-signal
decreases-loop-signal l = length l.rest
