use Rattle.std.proofs.Common.{◌≡◌, ◌≤◌, take, map}
use Rattle.percent.specs.Millionths.{sums}
use Rattle.store_sums.specs.Groups.{merged_parts}
use Rattle.store_sums.specs.Now.{nodes_now, count_now}
use Rattle.store_sums.proofs.sums.Sums.mean_of.Given as goal

abbrev pub invariant-loop-list : goal.invariant-loop-list
invariant-loop-list l = record {
  sums : l.mean ≡ sums (merged_parts (nodes_now l.self) (count_now l.self) (map (λ list. list.items) (take l.list-index l.lists)));
  pairs : l.mean.pairs ≤ l.list-index;
}
