use Rattle.std.proofs.Common.{◌≡◌, ◌++◌, length}
use Rattle.record_maker.specs.Generator.{after, values_of}
use Rattle.record_maker.proofs.drawing.push_values.Given as goal

abbrev pub invariant-loop-arg : goal.invariant-loop-arg
invariant-loop-arg l = record {
  so_far : l.values ++ values_of l.rest l.last ≡ l.initial.values ++ values_of l.args l.x;
  last : after l.rest l.last ≡ after l.args l.x;
}

abbrev pub decreases-loop-arg : goal.decreases-loop-arg
decreases-loop-arg l = length l.rest
