use Rattle.std.proofs.Common.{◌≡◌, ◌-◌, map, take, drop}
use Rattle.std.specs.Arc.{arc_value}
use Rattle.cov_history.specs.History.{Test, tests_of}
use Rattle.merge_store.specs.Stores.{entries_of}
use Rattle.merge_store.proofs.store.Store.records.Given as goal

abbrev pub invariant-loop-place : goal.invariant-loop-place
invariant-loop-place l = map arc_value l.list.items ≡ map (λ (t : Test). t.content) (take (l.place - 0) (drop 0 (tests_of (entries_of l.self))))
