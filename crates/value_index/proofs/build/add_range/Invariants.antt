use Rattle.std.proofs.Common.{◌≡◌, ◌<◌}
use Rattle.value_index.specs.Built.{RangeAdded}
use Rattle.value_index.proofs.build.add_range.Given as goal

abbrev pub invariant-loop-s : goal.invariant-loop-s
invariant-loop-s l = record {
  added : RangeAdded l.from l.s l.bin l.initial.rows l.rows;
  stop : l.to < l.from → l.s ≡ l.from;
}
