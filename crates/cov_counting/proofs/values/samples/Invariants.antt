use Rattle.std.proofs.Common.{◌≡◌, ◌++◌, [], take, drop, reverse}
use Rattle.record_codec.specs.Samples.{envs_after}
use Rattle.cov_counting.proofs.values.samples.Given as goal

abbrev pub invariant-loop-index : goal.invariant-loop-index
invariant-loop-index l = l.samples ++ envs_after l.signals l.rows l.instance (reverse (take l.index l.events)) (drop l.index l.events) ≡ envs_after l.signals l.rows l.instance [] l.events
