use Rattle.std.proofs.Common.{◌≡◌, ◌++◌, drop}
use Rattle.covd_commands.specs.DesignTables.{numbered, argument_line}
use Rattle.covd_commands.proofs.tables.append_arguments.Given as goal

abbrev pub invariant-loop-number : goal.invariant-loop-number
invariant-loop-number l = l.text.items ++ numbered (argument_line l.instance) l.number (drop l.number l.arguments) ≡ l.initial.text.items ++ numbered (argument_line l.instance) 0 l.arguments
