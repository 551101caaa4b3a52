use Rattle.std.proofs.Common.{◌≡◌, take, map}
use Rattle.std.specs.Prelude.{fold, max}
use Rattle.cov_history.specs.Coverage as meant
use Rattle.cov_history.proofs.merging.greatest.Given as goal

abbrev pub invariant-loop-bin : goal.invariant-loop-bin
invariant-loop-bin l = l.greatest ≡ fold max 0 (map (meant.at_least l.nodes) (take l.bin-index l.bins))
