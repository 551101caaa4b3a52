use Rattle.std.proofs.lemmas.Result.{err_from_is_err_and}
use Rattle.cov_base.specs.Sets.{written}
use Rattle.elab_values.specs.Listed.{all_numbers}
use Rattle.elab_base.proofs.Folds.{left_more, left_stops, left_done}
use Rattle.elab_values.proofs.Widths.{numbers_begin}
use Rattle.elab_values.proofs.ranges.all_ranges.Goals as goal

pub loop-listed-init : goal.loop-listed-init
loop-listed-init c = numbers_begin _ _ _ c.new-ranges.ensures.items

pub returns-in_err-add_numbers : goal.returns-in_err-add_numbers
unfolding all_numbers
returns-in_err-add_numbers c =
    let p = err_from_is_err_and c.from_residual.result c.from_residual.ensures.1 in
    rw (p.1, p.2) (left_stops c.in_err-add_numbers.field-0.0 c.listed-item.result c.loop-listed.invariant c.loop-listed-test.true c.listed-item.is c.in_err-add_numbers.ensures)

pub loop-listed-preserved : goal.loop-listed-preserved
loop-listed-preserved c = left_more c.listed-item.result (written c.add_numbers.new.ranges.items) c.loop-listed.invariant c.loop-listed-test.true c.listed-item.is c.in_ok-add_numbers.ensures

pub returns : goal.returns
unfolding all_numbers
returns c = left_done c.loop-listed.invariant c.loop-listed-test.false
