use Rattle.std.proofs.Common.{◌≡◌, ◌++◌, drop}
use Rattle.tally.specs.Rows.{rows_from}
use Rattle.tally.proofs.tally.rows_of.Given as goal

abbrev pub invariant-loop-bin : goal.invariant-loop-bin
invariant-loop-bin l = l.rows.items ++ rows_from l.bin (drop l.bin l.counts) ≡ rows_from 0 l.counts
