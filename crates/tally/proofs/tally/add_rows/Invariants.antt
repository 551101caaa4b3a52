use Rattle.std.proofs.Common.{drop}
use Rattle.tally.proofs.RowLemmas.{Added}
use Rattle.tally.proofs.tally.add_rows.Given as goal

abbrev pub invariant-loop-bin : goal.invariant-loop-bin
invariant-loop-bin l = Added l.first l.rows (drop l.bin-index l.rows) l.initial.counts l.counts
