use Rattle.elab_bins.specs.Rest.{all_bins}
use Rattle.elab_bins.proofs.Removal.{bins_more}
use Rattle.elab_bins.proofs.rest.all_bins.Goals as goal

pub loop-entry-init : goal.loop-entry-init
unfolding all_bins
loop-entry-init c = c.new-bins.ensures

pub loop-entry-preserved : goal.loop-entry-preserved
loop-entry-preserved c = bins_more c.args.rest.now c.loop-entry.yielded c.in-Some.entry _ _ _ c.loop-entry.invariant c.in_ok-entry_bins.ensures c.in_ok-append.ensures
