use Rattle.std.proofs.Common.{◌≡◌, take, map}
use Rattle.cov_history.specs.Coverage as meant
use Rattle.cov_history.proofs.merging.bin_names.Given as goal

abbrev pub invariant-loop-bin : goal.invariant-loop-bin
invariant-loop-bin l = l.names.items ≡ map (meant.bin_name l.nodes) (take l.bin-index l.bins)
