use Rattle.std.proofs.Common.{◌≡◌, map, take}
use Rattle.cov_history.specs.Answers.{count_row}
use Rattle.store_sums.specs.Branches.{part}
use Rattle.store_sums.specs.Now.{nodes_now, count_now, excluded_now}
use Rattle.store_sums.proofs.sums.Sums.rows.Given as goal

abbrev pub invariant-loop-bin : goal.invariant-loop-bin
invariant-loop-bin l = l.list.items ≡ map (count_row (nodes_now l.self) (count_now l.self) (excluded_now l.self)) (take l.bin-index (part l.first 65536 l.bins))
