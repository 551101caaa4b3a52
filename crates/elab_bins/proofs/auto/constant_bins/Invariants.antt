use Rattle.std.proofs.Common.{◌≡◌, map, take}
use Rattle.elab_bins.specs.Automatic.{auto_head, constant_bin}
use Rattle.elab_bins.proofs.auto.constant_bins.Given as goal

abbrev pub invariant-loop-constant : goal.invariant-loop-constant
invariant-loop-constant l = l.bins.items ≡ map (constant_bin (auto_head l.at)) (take l.constant-index l.constants)
