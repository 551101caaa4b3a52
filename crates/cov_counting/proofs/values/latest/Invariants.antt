use Rattle.std.proofs.Common.{◌≡◌, take, reverse}
use Rattle.record_codec.specs.Samples.{latest}
use Rattle.cov_counting.proofs.values.latest.Given as goal

abbrev pub invariant-loop-event : goal.invariant-loop-event
invariant-loop-event l = l.known ≡ latest l.signal (reverse (take l.event-index l.events))
