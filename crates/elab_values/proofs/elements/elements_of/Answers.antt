use Rattle.std.proofs.lemmas.Result.{err_from_is_err_and}
use Rattle.elab_values.specs.Listed.{listed_in}
use Rattle.elab_base.proofs.Folds.{left_more, left_stops, left_done}
use Rattle.elab_values.proofs.elements.elements_of.Goals as goal

pub returns-in_err-add_element : goal.returns-in_err-add_element
unfolding listed_in
returns-in_err-add_element c =
    let p = err_from_is_err_and c.from_residual.result c.from_residual.ensures.1 in
    rw (p.1, p.2) (left_stops c.in_err-add_element.field-0.0 c.elem-item.result c.loop-elem.invariant c.loop-elem-test.true c.elem-item.is c.in_err-add_element.ensures)

pub loop-elem-preserved : goal.loop-elem-preserved
loop-elem-preserved c = left_more c.elem-item.result c.add_element.new.elements c.loop-elem.invariant c.loop-elem-test.true c.elem-item.is c.in_ok-add_element.ensures

pub returns : goal.returns
unfolding listed_in
returns c = left_done c.loop-elem.invariant c.loop-elem-test.false
