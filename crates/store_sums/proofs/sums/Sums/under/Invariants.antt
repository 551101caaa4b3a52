use Rattle.std.proofs.Common.{◌≡◌, ◌+◌, ◌-◌, ◌≤◌, length}
use Rattle.cov_history.specs.Nodes.{bins_under, bin_nodes}
use Rattle.store_sums.specs.Branches.{part}
use Rattle.store_sums.specs.Runs.{live_in, covered_in}
use Rattle.store_sums.specs.Now.{nodes_now, count_now, excluded_now}
use Rattle.store_sums.proofs.sums.Sums.under.Given as goal

abbrev pub invariant-loop-first : goal.invariant-loop-first
invariant-loop-first l =
    let s = l.self in
    let bins = bin_nodes (nodes_now s) in
    record {
      live : l.live + live_in (nodes_now s) (excluded_now s) (part l.first (l.end - l.first) bins) ≡ live_in (nodes_now s) (excluded_now s) (bins_under (nodes_now s) l.node);
      covered : l.covered + covered_in (nodes_now s) (count_now s) (excluded_now s) (part l.first (l.end - l.first) bins) ≡ covered_in (nodes_now s) (count_now s) (excluded_now s) (bins_under (nodes_now s) l.node);
      inside : l.end ≤ length bins;
    }

abbrev pub decreases-loop-first : goal.decreases-loop-first
decreases-loop-first l = l.end - l.first
