use Rattle.std.proofs.Common.{[]}
use Rattle.elab_base.specs.Gives.{each}
use Rattle.elab_transitions.specs.Steps.{with_sequence}
use Rattle.elab_base.proofs.Folds.{Left}
use Rattle.elab_transitions.proofs.steps.listed_sequences.Given as goal

abbrev pub invariant-loop-sequence : goal.invariant-loop-sequence
invariant-loop-sequence l = Left (λ k. with_sequence l.scope l.domain l.wildcard) l.sequence-index l.written l.sequences (each (with_sequence l.scope l.domain l.wildcard) l.written [])
