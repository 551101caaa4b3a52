use Rattle.std.proofs.Common.{◌≡◌, ◌≤◌, map, take}
use Rattle.std.specs.Prelude.{filter}
use Rattle.percent.specs.Millionths.{sums}
use Rattle.ucis_model.specs.Paths.{node_at}
use Rattle.cov_history.specs.Nodes.{children}
use Rattle.cov_history.specs.Coverage as cover
use Rattle.store_sums.specs.Now.{nodes_now, count_now, excluded_now}
use Rattle.store_sums.proofs.sums.Sums.instance.Given as goal

abbrev pub invariant-loop-child : goal.invariant-loop-child
invariant-loop-child l =
    let s = l.self in
    record {
      sums : l.mean ≡ sums (map (λ m. ((node_at (nodes_now s) m).weight, cover.item_coverage (nodes_now s) (count_now s) (excluded_now s) m)) (filter (cover.has_live (nodes_now s) (excluded_now s)) (take l.child-index (children (nodes_now s) l.node))));
      pairs : l.mean.pairs ≤ l.child-index;
    }
