use Rattle.elab_base.specs.Gives.{each_at}
use Rattle.cov_design.specs.Events.{seen, nothing_seen}
use Rattle.elab_base.proofs.Folds.{Left}
use Rattle.cov_design.proofs.events.see_all.Given as goal

abbrev pub invariant-loop-place : goal.invariant-loop-place
invariant-loop-place l = Left (seen l.text l.instance) l.place l.text l.all (each_at (seen l.text l.instance) 0 l.text nothing_seen)
