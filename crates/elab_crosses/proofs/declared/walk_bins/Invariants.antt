use Rattle.elab_base.specs.Gives.{each}
use Rattle.elab_base.proofs.Folds.{Left}
use Rattle.elab_crosses.specs.Selections.{crossed}
use Rattle.elab_crosses.specs.Declarations.{bin_declared, no_bins}
use Rattle.elab_crosses.proofs.declared.walk_bins.Given as goal

abbrev pub invariant-loop-decl : goal.invariant-loop-decl
invariant-loop-decl l =
    Left (λ k. bin_declared l.scope (crossed l.cross.names.now l.cross.axes.now l.cross.items.now l.cross.decls.now)) l.decl-index l.decls l.walked
    (each (bin_declared l.scope (crossed l.cross.names.now l.cross.axes.now l.cross.items.now l.cross.decls.now)) l.decls no_bins)
