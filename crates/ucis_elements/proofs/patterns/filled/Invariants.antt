use Rattle.std.proofs.Common.{◌≡◌, ◌++◌, take, drop, ◌<◌, ◌^◌, ℕ}
use Rattle.ucis_elements.specs.Numbers.{filled}
use Rattle.ucis_elements.proofs.patterns.filled.Given as goal

abbrev pub invariant-loop-place : goal.invariant-loop-place
invariant-loop-place l = (l.sum ≡ filled l.pattern l.bit l.place) × (l.sum < 2 ^ l.place)
