use Rattle.std.proofs.Common.{◌≡◌, take}
use Rattle.std.specs.Prelude.{filter}
use Rattle.cov_history.specs.Nodes.{bins_under}
use Rattle.cov_history.specs.Coverage as cover
use Rattle.store_sums.specs.Now.{nodes_now, excluded_now}
use Rattle.store_sums.proofs.sums.Sums.live_under.Given as goal

abbrev pub invariant-loop-bin : goal.invariant-loop-bin
invariant-loop-bin l = l.live.items ≡ filter (cover.is_live (nodes_now l.self) (excluded_now l.self)) (take l.bin-index (bins_under (nodes_now l.self) l.node))
