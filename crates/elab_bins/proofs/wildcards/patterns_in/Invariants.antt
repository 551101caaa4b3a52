use Rattle.std.proofs.Common.{◌≡◌, take}
use Rattle.elab_bins.specs.Wildcards.{patterns_in}
use Rattle.elab_bins.proofs.wildcards.patterns_in.Given as goal

abbrev pub invariant-loop-listed : goal.invariant-loop-listed
invariant-loop-listed l = l.patterns ≡ patterns_in (take l.listed-index l.elements)
