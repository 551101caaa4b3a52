use Rattle.std.proofs.Common.{◌≡◌, ◌+◌, ◌++◌, length}
use Rattle.vcd_reader.specs.Moments.{sets_from}
use Rattle.vcd_reader.proofs.moments.sets.Given as goal

abbrev pub invariant-loop-value : goal.invariant-loop-value
invariant-loop-value l = record {
  so_far : l.sets.items ++ sets_from l.signal l.older l.rest ≡ sets_from 0 l.last l.now;
  counted : l.signal + length l.rest ≡ length l.now;
}

abbrev pub decreases-loop-value : goal.decreases-loop-value
decreases-loop-value l = length l.rest
