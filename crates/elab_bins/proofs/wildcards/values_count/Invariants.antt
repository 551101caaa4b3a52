use Rattle.std.proofs.Common.{◌≡◌, take}
use Rattle.design_data.proofs.Sums.{cut}
use Rattle.elab_bins.specs.Wildcards.{values_count}
use Rattle.elab_bins.proofs.wildcards.values_count.Given as goal

abbrev pub invariant-loop-listed : goal.invariant-loop-listed
invariant-loop-listed l = l.sum ≡ cut (values_count l.domain (take l.listed-index l.elements))
