use Rattle.std.proofs.Common.{◌≡◌}
use Rattle.elab_base.specs.Gives.{each}
use Rattle.cov_options.specs.Table.{defaults}
use Rattle.elab_decls.specs.Options.{member_set}
use Rattle.elab_base.proofs.Folds.{Left}
use Rattle.elab_decls.proofs.options.read_options.Given as goal

abbrev pub invariant-loop-member : goal.invariant-loop-member
invariant-loop-member l = Left (λ k. member_set l.initial.scope) l.member-index l.members l.options (each (member_set l.initial.scope) l.members defaults) × (l.scope ≡ l.initial.scope)
