use Rattle.std.proofs.Common.{◌≡◌}
use Rattle.elab_base.specs.Gives.{each}
use Rattle.elab_decls.specs.Options.{option_set}
use Rattle.elab_base.proofs.Folds.{Left}
use Rattle.elab_decls.proofs.options.set_options.Given as goal

abbrev pub invariant-loop-option : goal.invariant-loop-option
invariant-loop-option l = Left (λ k. option_set l.level l.initial.scope) l.option-index l.decls l.options (each (option_set l.level l.initial.scope) l.decls l.initial.options) × (l.scope ≡ l.initial.scope)
