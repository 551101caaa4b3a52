use Rattle.std.proofs.Common.{◌≡◌, take, ◌&&◌, nat_lt}
use Rattle.std.specs.Prelude.{filter}
use Rattle.cov_history.specs.Nodes.{is_illegal, kind_of_bin, bin_nodes}
use Rattle.cov_history.specs.Coverage.{count_at}
use Rattle.store_sums.specs.Now.{nodes_now, count_now}
use Rattle.store_sums.proofs.sums.Sums.illegal_bins.Given as goal

abbrev pub invariant-loop-bin : goal.invariant-loop-bin
invariant-loop-bin l =
    l.hit.items ≡ filter (λ n. is_illegal (kind_of_bin (nodes_now l.self) n) && nat_lt 0 (count_at (nodes_now l.self) (count_now l.self) n)) (take l.bin-index (bin_nodes (nodes_now l.self)))
