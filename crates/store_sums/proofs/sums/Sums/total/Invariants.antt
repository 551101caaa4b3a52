use Rattle.std.proofs.Common.{◌≡◌, ◌*◌, ◌≤◌, take}
use Rattle.std.specs.Prelude.{sum_by, ◌^◌}
use Rattle.cov_history.specs.Coverage as cover
use Rattle.store_sums.specs.Now.{nodes_now, count_now}
use Rattle.store_sums.proofs.sums.Sums.total.Given as goal

abbrev pub invariant-loop-bin : goal.invariant-loop-bin
invariant-loop-bin l = (l.total ≡ sum_by (cover.count_at (nodes_now l.self) (count_now l.self)) (take l.bin-index l.bins)) × (l.total ≤ l.bin-index * 2 ^ 64)
