use Rattle.std.proofs.Common.{map}
use Rattle.store_sums.specs.Branches.{HasChildren}
use Rattle.store_sums.proofs.branches.below_of.Given as goal

abbrev pub invariant-loop-place : goal.invariant-loop-place
invariant-loop-place l = HasChildren l.nodes l.place (map (λ list. list.items) l.lists.items)
