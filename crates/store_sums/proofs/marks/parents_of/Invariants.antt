use Rattle.std.proofs.Common.{◌≡◌, map, take}
use Rattle.ucis_model.specs.Paths.{node_at}
use Rattle.cov_history.specs.Nodes.{bin_nodes}
use Rattle.store_sums.proofs.marks.parents_of.Given as goal

abbrev pub invariant-loop-bin : goal.invariant-loop-bin
invariant-loop-bin l = l.parents.items ≡ map (λ n. (node_at l.branches n).parent) (take l.bin-index (bin_nodes l.branches))
