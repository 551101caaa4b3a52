use Rattle.std.proofs.Common.{◌≡◌}
use Rattle.elab_bins.specs.Rest.{all_bins}
use Rattle.elab_bins.proofs.rest.all_bins.Given as goal

abbrev pub invariant-loop-entry : goal.invariant-loop-entry
invariant-loop-entry l = l.bins ≡ all_bins l.rest l.yielded
