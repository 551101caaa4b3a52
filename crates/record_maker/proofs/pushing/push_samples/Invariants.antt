use Rattle.std.proofs.Common.{◌≡◌, ◌+◌, length}
use Rattle.record_maker.specs.Generator.{after_samples, samples_from}
use Rattle.record_maker.proofs.Pushes.{SoFar}
use Rattle.record_maker.proofs.pushing.push_samples.Given as goal

abbrev pub invariant-loop-instance : goal.invariant-loop-instance
invariant-loop-instance l = record {
  so_far : SoFar l.initial.builder l.builder (samples_from l.number l.rest l.last) (samples_from 0 l.instances l.x);
  last : after_samples l.rest l.last ≡ after_samples l.instances l.x;
  counted : l.number + length l.rest ≡ length l.instances;
}

abbrev pub decreases-loop-instance : goal.decreases-loop-instance
decreases-loop-instance l = length l.rest
