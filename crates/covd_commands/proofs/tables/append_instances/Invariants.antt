use Rattle.std.proofs.Common.{◌≡◌, ◌++◌, drop}
use Rattle.covd_commands.specs.DesignTables.{numbered, instance_lines}
use Rattle.covd_commands.proofs.tables.append_instances.Given as goal

abbrev pub invariant-loop-number : goal.invariant-loop-number
invariant-loop-number l = l.text.items ++ numbered (instance_lines l.groups) l.number (drop l.number l.instances) ≡ l.initial.text.items ++ numbered (instance_lines l.groups) 0 l.instances
