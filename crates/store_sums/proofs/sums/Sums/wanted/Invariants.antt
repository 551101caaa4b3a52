use Rattle.std.proofs.Common.{◌≡◌, map, take}
use Rattle.std.specs.Prelude.{filter}
use Rattle.ucis_model.specs.Paths.{node_at}
use Rattle.cov_history.specs.Nodes.{bins_under}
use Rattle.cov_history.specs.Coverage.{is_live}
use Rattle.store_sums.specs.Now.{nodes_now, excluded_now}
use Rattle.store_sums.proofs.sums.Sums.wanted.Given as goal

abbrev pub invariant-loop-bin : goal.invariant-loop-bin
invariant-loop-bin l = l.wanted.items ≡ map (λ n. ((node_at (nodes_now l.self) n).first_bin, (node_at (nodes_now l.self) n).at_least)) (filter (is_live (nodes_now l.self) (excluded_now l.self)) (take l.bin-index (bins_under (nodes_now l.self) 0)))
