use Rattle.std.proofs.Common.{◌≡◌, ◌≤◌, take}
use Rattle.std.specs.Prelude.{count_by}
use Rattle.cov_history.specs.Coverage as cover
use Rattle.store_sums.specs.Now.{nodes_now, count_now}
use Rattle.store_sums.proofs.sums.Sums.covered_lists.Given as goal

abbrev pub invariant-loop-list : goal.invariant-loop-list
invariant-loop-list l = record {
  is : l.covered ≡ count_by (λ list. cover.is_covered_as_one (nodes_now l.self) (count_now l.self) list.items) (take l.list-index l.lists);
  few : l.covered ≤ l.list-index;
}
