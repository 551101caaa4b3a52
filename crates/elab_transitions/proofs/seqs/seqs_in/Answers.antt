use Rattle.std.proofs.lemmas.Result.{err_from_is_err_and}
use Rattle.elab_transitions.specs.Steps.{seqs_of}
use Rattle.elab_base.proofs.Folds.{left_more, left_stops, left_done}
use Rattle.elab_transitions.proofs.seqs.seqs_in.Goals as goal

pub returns-in_err-add_seq : goal.returns-in_err-add_seq
unfolding seqs_of
returns-in_err-add_seq c =
    let p = err_from_is_err_and c.from_residual.result c.from_residual.ensures.1 in
    rw (p.1, p.2) (left_stops c.in_err-add_seq.field-0.0 c.steps-item.result c.loop-steps.invariant c.loop-steps-test.true c.steps-item.is c.in_err-add_seq.ensures)

pub loop-steps-preserved : goal.loop-steps-preserved
loop-steps-preserved c = left_more c.steps-item.result c.add_seq.new.seqs c.loop-steps.invariant c.loop-steps-test.true c.steps-item.is c.in_ok-add_seq.ensures

pub returns : goal.returns
unfolding seqs_of
returns c = left_done c.loop-steps.invariant c.loop-steps-test.false
