use Rattle.std.proofs.Common.{◌≡◌, map, take}
use Rattle.elab_bins.specs.Rest.{rest_bin}
use Rattle.elab_bins.proofs.rest.rest_bins.Given as goal

abbrev pub invariant-loop-value : goal.invariant-loop-value
invariant-loop-value l = l.bins ≡ map (rest_bin l.head) (take l.value-index l.values)
