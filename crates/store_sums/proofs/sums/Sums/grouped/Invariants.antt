use Rattle.std.proofs.Common.{take, map}
use Rattle.store_sums.specs.Groups.{HasGroups, groups_of, name_by}
use Rattle.store_sums.specs.Now.{nodes_now}
use Rattle.store_sums.proofs.sums.Sums.grouped.Given as goal

abbrev pub invariant-loop-bin : goal.invariant-loop-bin
invariant-loop-bin l = HasGroups (groups_of (name_by (nodes_now l.self) l.of_item) (take l.bin-index l.bins)) l.names (map (λ list. list.items) l.lists.items)
