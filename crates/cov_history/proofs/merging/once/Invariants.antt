use Rattle.std.proofs.Common.{◌≡◌, take}
use Rattle.cov_history.specs.Coverage as meant
use Rattle.cov_history.proofs.merging.once.Given as goal

abbrev pub invariant-loop-name : goal.invariant-loop-name
invariant-loop-name l = l.once.items ≡ meant.once (take l.name-index l.names)
