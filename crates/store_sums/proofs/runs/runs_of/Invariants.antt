use Rattle.std.proofs.Common.{◌≡◌, ◌<◌, ◌-◌}
use Rattle.store_sums.specs.Runs.{begin_of, HasRuns}
use Rattle.store_sums.proofs.runs.runs_of.Given as goal

abbrev pub invariant-loop-place : goal.invariant-loop-place
invariant-loop-place l = record {
  runs : HasRuns l.parents l.place l.begins.items l.ends.items;
  begin : 0 < l.place → l.begin ≡ begin_of l.parents (l.place - 1);
}
