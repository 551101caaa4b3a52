use Rattle.elab_base.specs.Gives.{each}
use Rattle.elab_bins.specs.Declarations.{bins_declared, no_bins}
use Rattle.elab_base.proofs.Folds.{Left}
use Rattle.elab_points.proofs.declared.walk_bins.Given as goal

abbrev pub invariant-loop-decl : goal.invariant-loop-decl
invariant-loop-decl l = Left (λ k. bins_declared l.scope l.domain l.name l.manner) l.decl-index l.decls l.walked (each (bins_declared l.scope l.domain l.name l.manner) l.decls no_bins)
