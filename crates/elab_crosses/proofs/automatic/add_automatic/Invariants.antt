use Rattle.std.proofs.Common.{◌≡◌, ◌++◌, map}
use Rattle.elab_crosses.specs.Removal.{automatic_bin}
use Rattle.elab_crosses.proofs.automatic.add_automatic.Given as goal

abbrev pub invariant-loop-product : goal.invariant-loop-product
invariant-loop-product l = l.bins ≡ l.initial.bins ++ map (automatic_bin l.names l.at) l.yielded
