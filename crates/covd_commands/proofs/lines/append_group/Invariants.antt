use Rattle.std.proofs.Common.{◌≡◌, ◌++◌, take}
use Rattle.covd_commands.specs.Columns.{counts_of}
use Rattle.std.specs.List.{flat_map}
use Rattle.covd_commands.specs.Walks.{lines_of_instance}
use Rattle.covd_commands.proofs.lines.append_group.Given as goal

abbrev pub invariant-loop-instance : goal.invariant-loop-instance
invariant-loop-instance l = l.text.items ≡ l.initial.text.items ++ flat_map (lines_of_instance (counts_of l.column) l.group.name l.place) (take l.instance-index l.instances)
