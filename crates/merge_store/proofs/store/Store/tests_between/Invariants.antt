use Rattle.std.proofs.Common.{◌≡◌, ◌-◌, ◌≤◌, map, take, drop}
use Rattle.cov_history.specs.History.{tests_of}
use Rattle.cov_history.specs.Answers.{test_row}
use Rattle.merge_store.specs.Stores.{entries_of}
use Rattle.merge_store.proofs.store.Store.tests_between.Given as goal

abbrev pub invariant-loop-place : goal.invariant-loop-place
invariant-loop-place l = record {
  rows : l.list.items ≡ map test_row (take (l.place - l.from) (drop l.from (tests_of (entries_of l.self))));
  low : l.from ≤ l.place;
}
