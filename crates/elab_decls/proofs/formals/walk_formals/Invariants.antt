use Rattle.elab_base.specs.Gives.{each_at}
use Rattle.elab_decls.specs.Formals.{formal, no_formals}
use Rattle.elab_base.proofs.Folds.{Left}
use Rattle.elab_decls.proofs.formals.walk_formals.Given as goal

abbrev pub invariant-loop-place : goal.invariant-loop-place
invariant-loop-place l = Left (formal l.outside l.args l.at) l.place l.formals l.all (each_at (formal l.outside l.args l.at) 0 l.formals no_formals)
