use Rattle.std.proofs.Common.{◌≡◌, take}
use Rattle.std.specs.List.{flat_map}
use Rattle.elab_crosses.specs.Removal.{coverage_name}
use Rattle.elab_crosses.proofs.automatic.names_of.Given as goal

abbrev pub invariant-loop-bin : goal.invariant-loop-bin
invariant-loop-bin l = l.names ≡ flat_map coverage_name (take l.bin-index l.bins)
