use Rattle.std.proofs.Common.{◌≡◌, take}
use Rattle.percent.specs.Millionths.{sums}
use Rattle.percent.proofs.mean.weighted.Given as goal

abbrev pub invariant-loop-weight : goal.invariant-loop-weight
invariant-loop-weight l = l.mean ≡ sums (take l.weight-index l.parts)
