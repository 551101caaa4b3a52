use Rattle.std.proofs.Common.{◌≡◌, ◌-◌, map, take, drop}
use Rattle.std.specs.Arc.{arc_value}
use Rattle.cov_history.specs.History.{tests_of, design_of}
use Rattle.store_parts.specs.Keeps.{rows_of}
use Rattle.merge_store.specs.Stores.{opening_of, entries_of}
use Rattle.merge_store.proofs.store.Store.tallies.Given as goal

abbrev pub invariant-loop-place : goal.invariant-loop-place
invariant-loop-place l = map arc_value l.list.items ≡ map (rows_of (design_of (opening_of l.self) (entries_of l.self))) (take (l.place - 0) (drop 0 (tests_of (entries_of l.self))))
