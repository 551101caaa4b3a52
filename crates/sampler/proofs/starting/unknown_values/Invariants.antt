use Rattle.std.proofs.Common.{◌≡◌, length}
use Rattle.sampler.specs.Starting.{AreUnknown}
use Rattle.sampler.proofs.starting.unknown_values.Given as goal

abbrev pub invariant-loop-place : goal.invariant-loop-place
invariant-loop-place l = record { same : length l.values.items ≡ l.place; unknown : AreUnknown l.values.items }
