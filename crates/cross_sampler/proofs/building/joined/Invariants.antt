use Rattle.std.proofs.Common.{◌≡◌, take}
use Rattle.cross_sampler.proofs.building.joined.Given as goal

abbrev pub invariant-loop-row : goal.invariant-loop-row
invariant-loop-row l = l.all ≡ take l.row-index l.rows
