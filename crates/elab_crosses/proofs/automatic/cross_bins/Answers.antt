use Rattle.elab_crosses.proofs.Completing.{walked_few}
use Rattle.elab_crosses.proofs.automatic.cross_bins.Goals as goal

pub complete-requires-clause-few : goal.complete-requires-clause-few
complete-requires-clause-few c = walked_few _ _ c.args.decls.now c.in_ok-walked.walked c.in_ok-walked.ensures
