use Rattle.std.proofs.Common.{[]}
use Rattle.elab_base.specs.Gives.{each}
use Rattle.elab_transitions.specs.Steps.{with_step}
use Rattle.elab_base.proofs.Folds.{Left}
use Rattle.elab_transitions.proofs.steps.listed_steps.Given as goal

abbrev pub invariant-loop-step : goal.invariant-loop-step
invariant-loop-step l = Left (λ k. with_step l.scope l.domain l.wildcard) l.step-index l.sequence l.steps (each (with_step l.scope l.domain l.wildcard) l.sequence [])
