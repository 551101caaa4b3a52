use Rattle.std.proofs.Common.{[]}
use Rattle.elab_base.specs.Gives.{each}
use Rattle.elab_transitions.specs.Steps.{with_item}
use Rattle.elab_base.proofs.Folds.{Left}
use Rattle.elab_transitions.proofs.seqs.items.Given as goal

abbrev pub invariant-loop-step : goal.invariant-loop-step
invariant-loop-step l = Left (λ k. with_item l.domain l.at) l.step-index l.steps l.items (each (with_item l.domain l.at) l.steps [])
