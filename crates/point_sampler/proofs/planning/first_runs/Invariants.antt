use Rattle.std.proofs.Common.{◌≡◌, ◌<◌, ℕ, List, [], length, get_or}
use Rattle.trans_auto.specs.State.{Stands}
use Rattle.point_tables.specs.declared.tables.Machine.{Machine}
use Rattle.point_tables.specs.Tables.{removed_by}
use Rattle.point_sampler.proofs.planning.first_runs.Given as goal

abbrev pub invariant-loop-machine : goal.invariant-loop-machine
invariant-loop-machine l = record {
  same : length l.runs.items ≡ l.machine-index;
  stand : (k : ℕ) (machine : Machine) (run : List (ℕ × ℕ)) → k < l.machine-index → k < length l.plan.machines.items
      → Stands (get_or l.plan.machines.items k machine).watcher (removed_by l.plan.removers (get_or l.plan.machines.items k machine).kind) (get_or l.runs.items k run) [];
}
