use Rattle.std.proofs.Common.{◌≤◌}
use Rattle.cov_spec.specs.Number.{Number}
use Rattle.cov_counting.specs.Tallies.{Hit}
use Rattle.cov_counting.proofs.tally.count_of.Given as goal

abbrev pub invariant-loop-k : goal.invariant-loop-k
invariant-loop-k l = record {
  few : l.count ≤ l.k;
  number : Number (Hit l.items l.item l.bin l.samples) l.k l.count;
}
