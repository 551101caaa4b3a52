use Rattle.std.proofs.Common.{◌≡◌, ◌++◌, map, length}
use Rattle.ucis_model.specs.Paths.{node_at}
use Rattle.history_answers.proofs.ranks.wants.Given as goal

abbrev pub invariant-loop-bin : goal.invariant-loop-bin
invariant-loop-bin l = l.wants.items ++ map (λ n. ((node_at l.nodes n).first_bin, (node_at l.nodes n).at_least)) l.rest ≡ map (λ n. ((node_at l.nodes n).first_bin, (node_at l.nodes n).at_least)) l.bins

abbrev pub decreases-loop-bin : goal.decreases-loop-bin
decreases-loop-bin l = length l.rest
