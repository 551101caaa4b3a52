use Rattle.std.proofs.Common.{◌≡◌, ◌+◌, length}
use Rattle.record_maker.specs.Generator.{after, sets_from}
use Rattle.record_maker.proofs.Pushes.{SoFar}
use Rattle.record_maker.proofs.pushing.push_sets.Given as goal

abbrev pub invariant-loop-signal : goal.invariant-loop-signal
invariant-loop-signal l = record {
  so_far : SoFar l.initial.builder l.builder (sets_from l.number l.rest l.last) (sets_from 0 l.signals l.x);
  last : after l.rest l.last ≡ after l.signals l.x;
  counted : l.number + length l.rest ≡ length l.signals;
}

abbrev pub decreases-loop-signal : goal.decreases-loop-signal
decreases-loop-signal l = length l.rest
