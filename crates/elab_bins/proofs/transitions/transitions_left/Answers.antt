use Rattle.elab_bins.specs.Transitions.{transitions_left}
use Rattle.elab_bins.proofs.Removal.{trans_more}
use Rattle.elab_bins.proofs.transitions.transitions_left.Goals as goal

pub loop-made-init : goal.loop-made-init
unfolding transitions_left
loop-made-init c = c.new-left.ensures

pub loop-made-preserved : goal.loop-made-preserved
loop-made-preserved c = trans_more c.args.decls.now c.args.removers.now.0 c.args.removers.now.1 c.loop-made.yielded c.in-Some.made _ _ c.loop-made.invariant c.in_ok-keep_left.ensures
