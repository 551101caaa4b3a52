use Rattle.std.proofs.lemmas.Result.{err_from_is_err_and}
use Rattle.elab_transitions.specs.Steps.{sequences_of}
use Rattle.elab_base.proofs.Folds.{left_more, left_stops, left_done}
use Rattle.elab_transitions.proofs.steps.listed_sequences.Goals as goal

pub returns-in_err-add_sequence : goal.returns-in_err-add_sequence
unfolding sequences_of
returns-in_err-add_sequence c =
    let p = err_from_is_err_and c.from_residual.result c.from_residual.ensures.1 in
    rw (p.1, p.2) (left_stops c.in_err-add_sequence.field-0.0 c.sequence-item.result c.loop-sequence.invariant c.loop-sequence-test.true c.sequence-item.is c.in_err-add_sequence.ensures)

pub loop-sequence-preserved : goal.loop-sequence-preserved
loop-sequence-preserved c = left_more c.sequence-item.result c.add_sequence.new.sequences c.loop-sequence.invariant c.loop-sequence-test.true c.sequence-item.is c.in_ok-add_sequence.ensures

pub returns : goal.returns
unfolding sequences_of
returns c = left_done c.loop-sequence.invariant c.loop-sequence-test.false
