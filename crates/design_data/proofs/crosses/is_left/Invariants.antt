use Rattle.std.proofs.Common.{◌≡◌, take, true}
use Rattle.design_data.specs.Crosses.{is_left}
use Rattle.design_data.proofs.crosses.is_left.Given as goal

abbrev pub invariant-loop-bin : goal.invariant-loop-bin
invariant-loop-bin l = is_left (take l.bin-index l.bins) l.kind l.product ≡ true
