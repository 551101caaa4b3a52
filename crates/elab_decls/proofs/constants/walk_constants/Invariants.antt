use Rattle.elab_base.specs.Gives.{each}
use Rattle.elab_decls.specs.Enumerations.{constant, no_constants}
use Rattle.elab_base.proofs.Folds.{Left}
use Rattle.elab_decls.proofs.constants.walk_constants.Given as goal

abbrev pub invariant-loop-named : goal.invariant-loop-named
invariant-loop-named l = Left (λ k. constant l.typ l.at) l.named-index l.names (l.outside, l.all) (each (constant l.typ l.at) l.names (l.initial.outside, no_constants))
