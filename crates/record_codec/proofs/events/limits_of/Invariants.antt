use Rattle.std.proofs.Common.{◌≡◌, take}
use Rattle.record_codec.specs.Under.{limits_of}
use Rattle.record_codec.proofs.events.limits_of.Given as goal

abbrev pub invariant-loop-row : goal.invariant-loop-row
invariant-loop-row l = l.limits.items ≡ limits_of (take l.row-index l.signals)
