use Rattle.std.proofs.Common.{◌≡◌, ◌+◌, ◌++◌, drop}
use Rattle.covd_commands.specs.Columns.{counts_of}
use Rattle.covd_commands.specs.Walks.{bin_lines}
use Rattle.covd_commands.proofs.lines.append_bins.Given as goal

abbrev pub invariant-loop-place : goal.invariant-loop-place
invariant-loop-place l =
    let counts = counts_of l.column in
    l.text.items ++ bin_lines counts (l.first + l.place) l.path (drop l.place l.bins) ≡ l.initial.text.items ++ bin_lines counts l.first l.path l.bins
