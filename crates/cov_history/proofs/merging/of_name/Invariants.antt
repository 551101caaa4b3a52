use Rattle.std.proofs.Common.{◌≡◌, take}
use Rattle.std.specs.Prelude.{filter, bytes_eq}
use Rattle.cov_history.specs.Coverage as meant
use Rattle.cov_history.proofs.merging.of_name.Given as goal

abbrev pub invariant-loop-bin : goal.invariant-loop-bin
invariant-loop-bin l = l.own.items ≡ filter (λ n. bytes_eq (meant.bin_name l.nodes n) l.name) (take l.bin-index l.bins)
