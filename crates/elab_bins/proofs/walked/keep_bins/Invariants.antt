use Rattle.std.proofs.Common.{◌≡◌, ◌++◌, map}
use Rattle.elab_bins.specs.declared.walked.Entry.TheVariants.{Bin}
use Rattle.elab_bins.proofs.walked.keep_bins.Given as goal

abbrev pub invariant-loop-made : goal.invariant-loop-made
invariant-loop-made l = l.entries ≡ l.initial.entries ++ map Bin l.yielded
