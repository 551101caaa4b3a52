use Rattle.elab_base.specs.Gives.{each}
use Rattle.elab_decls.specs.Formals.{sample_argument}
use Rattle.elab_base.proofs.Folds.{Left}
use Rattle.elab_decls.proofs.samples.walk_samples.Given as goal

abbrev pub invariant-loop-argument : goal.invariant-loop-argument
invariant-loop-argument l = Left (λ k. sample_argument l.outside) l.argument-index l.samples l.all (each (sample_argument l.outside) l.samples l.initial.all)
