use Rattle.std.proofs.Common.{◌≡◌}
use Rattle.store_sums.specs.Now.{excluded_now}
use Rattle.store_sums.proofs.sums.Sums.is_excluded.Given as goal

abbrev pub invariant-loop-node : goal.invariant-loop-node
invariant-loop-node l = excluded_now l.self l.at ≡ excluded_now l.self l.node

abbrev pub decreases-loop-node : goal.decreases-loop-node
decreases-loop-node l = l.at
