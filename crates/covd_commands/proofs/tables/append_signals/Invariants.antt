use Rattle.std.proofs.Common.{◌≡◌, ◌++◌, drop}
use Rattle.covd_commands.specs.DesignTables.{numbered, signal_line}
use Rattle.covd_commands.proofs.tables.append_signals.Given as goal

abbrev pub invariant-loop-number : goal.invariant-loop-number
invariant-loop-number l = l.text.items ++ numbered signal_line l.number (drop l.number l.signals) ≡ l.initial.text.items ++ numbered signal_line 0 l.signals
