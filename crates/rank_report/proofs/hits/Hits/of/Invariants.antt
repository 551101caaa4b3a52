use Rattle.std.proofs.Common.{◌≡◌, ◌≤◌, ◌++◌, drop, length}
use Rattle.rank_report.specs.Steps.{hits_from}
use Rattle.rank_report.proofs.hits.Hits.of.Given as goal

abbrev pub invariant-loop-bin : goal.invariant-loop-bin
invariant-loop-bin l = record {
  so_far : l.pairs.items ++ hits_from l.index (drop l.bin-index l.bin-items) (drop l.index l.wanted) ≡ hits_from 0 l.test l.wanted;
  few : length l.pairs.items ≤ l.index;
  within : l.index ≤ length l.wanted;
}
