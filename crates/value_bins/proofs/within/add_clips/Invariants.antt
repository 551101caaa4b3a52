use Rattle.std.proofs.Common.{◌≡◌, ◌++◌, drop, map}
use Rattle.cov_base.specs.Sets.{written}
use Rattle.value_bins.specs.Clips.{clip}
use Rattle.value_bins.proofs.within.add_clips.Given as goal

abbrev pub invariant-loop-interval : goal.invariant-loop-interval
invariant-loop-interval l = written l.kept.items ++ written (map (clip (l.low, l.high)) (drop l.interval-index l.intervals)) ≡ written l.initial.kept.items ++ written (map (clip (l.low, l.high)) l.intervals)
