use Rattle.std.proofs.Common.{[]}
use Rattle.elab_base.specs.Gives.{each}
use Rattle.elab_transitions.specs.Steps.{with_seq}
use Rattle.elab_base.proofs.Folds.{Left}
use Rattle.elab_transitions.proofs.seqs.seqs_in.Given as goal

abbrev pub invariant-loop-steps : goal.invariant-loop-steps
invariant-loop-steps l = Left (λ k. with_seq l.domain l.at) l.steps-index l.sequences l.seqs (each (with_seq l.domain l.at) l.sequences [])
