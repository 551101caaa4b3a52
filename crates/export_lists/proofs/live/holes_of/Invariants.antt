use Rattle.std.proofs.Common.{◌≡◌, take, not}
use Rattle.std.specs.Prelude.{filter}
use Rattle.cov_history.specs.Coverage.{is_covered}
use Rattle.merge_store.specs.Now.{nodes_now, count_now}
use Rattle.export_lists.proofs.live.holes_of.Given as goal

abbrev pub invariant-loop-node : goal.invariant-loop-node
invariant-loop-node l = l.holes.items ≡ filter (λ m. not (is_covered (nodes_now l.store) (count_now l.store) m)) (take l.node-index l.live)
