use Rattle.std.proofs.Common.{◌≡◌, take, false}
use Rattle.design_data.specs.Laws.{is_listed}
use Rattle.cov_counting.proofs.rules.is_listed.Given as goal

abbrev pub invariant-loop-bin : goal.invariant-loop-bin
invariant-loop-bin l = is_listed (take l.bin-index l.bins) l.value ≡ false
