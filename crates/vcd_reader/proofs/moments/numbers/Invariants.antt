use Rattle.std.proofs.Common.{◌≡◌, ◌+◌, ◌++◌, length}
use Rattle.vcd_reader.specs.Moments.{numbers_from}
use Rattle.vcd_reader.proofs.moments.numbers.Given as goal

abbrev pub invariant-loop-value : goal.invariant-loop-value
invariant-loop-value l = record {
  so_far : l.numbers.items ++ numbers_from l.rows l.signal l.rest ≡ numbers_from l.rows 0 l.values;
  counted : l.signal + length l.rest ≡ length l.values;
}

abbrev pub decreases-loop-value : goal.decreases-loop-value
decreases-loop-value l = length l.rest
