use Rattle.std.proofs.Common.{◌≡◌, ◌++◌, drop}
use Rattle.covd_commands.specs.Columns.{counts_of}
use Rattle.covd_commands.specs.Walks.{lines_from}
use Rattle.covd_commands.proofs.lines.append_groups.Given as goal

abbrev pub invariant-loop-place : goal.invariant-loop-place
invariant-loop-place l =
    let counts = counts_of l.column in
    l.text.items ++ lines_from counts l.instances l.place (drop l.place l.groups) ≡ l.initial.text.items ++ lines_from counts l.instances 0 l.groups
