use Rattle.std.proofs.Common.{◌≡◌, ◌++◌, take}
use Rattle.covd_commands.specs.Columns.{counts_of}
use Rattle.std.specs.List.{flat_map}
use Rattle.covd_commands.specs.Walks.{item_lines}
use Rattle.covd_commands.proofs.lines.append_items.Given as goal

abbrev pub invariant-loop-item : goal.invariant-loop-item
invariant-loop-item l = l.text.items ≡ l.initial.text.items ++ flat_map (item_lines (counts_of l.column) l.above) (take l.item-index l.items)
