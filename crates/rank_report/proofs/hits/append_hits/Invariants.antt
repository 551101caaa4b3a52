use Rattle.std.proofs.Common.{◌≡◌, ◌≤◌, ◌+◌, ◌∷◌, ◌++◌, drop, length}
use Rattle.tally.specs.Rows.{IsAscendingFrom}
use Rattle.rank_report.specs.Ranking.{Test}
use Rattle.rank_report.specs.Steps.{hits_from}
use Rattle.rank_report.proofs.hits.append_hits.Given as goal

abbrev pub invariant-loop-index : goal.invariant-loop-index
invariant-loop-index l = record {
  so_far : (rest : Test) → IsAscendingFrom (l.bin + 1) rest
      → l.hits.items ++ hits_from l.index ((l.bin, l.count) ∷ rest) (drop l.index l.wanted) ≡ l.initial.hits.items ++ hits_from l.first ((l.bin, l.count) ∷ rest) (drop l.first l.wanted);
  short : length l.hits.items ≤ l.index;
}
