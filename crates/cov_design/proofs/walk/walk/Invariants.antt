use Rattle.elab_base.specs.Gives.{each_at}
use Rattle.cov_design.specs.Walk.{declared}
use Rattle.elab_base.proofs.Folds.{Left}
use Rattle.cov_design.proofs.walk.walk.Given as goal

abbrev pub invariant-loop-place : goal.invariant-loop-place
invariant-loop-place l = Left (declared l.text) l.place l.text l.known (each_at (declared l.text) 0 l.text l.initial.known)
