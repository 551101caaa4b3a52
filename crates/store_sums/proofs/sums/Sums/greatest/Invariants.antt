use Rattle.std.proofs.Common.{◌≡◌, take, map}
use Rattle.std.specs.Prelude.{fold, max}
use Rattle.cov_history.specs.Coverage as cover
use Rattle.store_sums.specs.Now.{nodes_now}
use Rattle.store_sums.proofs.sums.Sums.greatest.Given as goal

abbrev pub invariant-loop-bin : goal.invariant-loop-bin
invariant-loop-bin l = l.greatest ≡ fold max 0 (map (cover.at_least (nodes_now l.self)) (take l.bin-index l.bins))
