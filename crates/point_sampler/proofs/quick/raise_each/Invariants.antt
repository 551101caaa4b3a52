use Rattle.std.proofs.Common.{◌≡◌, length, take}
use Rattle.point_sampler.specs.Quick.{AreRaised}
use Rattle.point_sampler.proofs.quick.raise_each.Given as goal

abbrev pub invariant-loop-place : goal.invariant-loop-place
invariant-loop-place l = record {
  same : length l.counts ≡ length l.initial.counts;
  raised : AreRaised l.first_bin (take l.place-index l.met) l.initial.counts l.counts;
}
