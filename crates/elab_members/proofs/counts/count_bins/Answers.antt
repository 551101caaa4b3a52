use Rattle.std.proofs.lemmas.Result.{err_from_is_err_and}
use Rattle.elab_members.specs.Counting.{bins_counted}
use Rattle.elab_base.proofs.Folds.{left_more, left_stops, left_done}
use Rattle.elab_members.proofs.counts.count_bins.Goals as goal

pub returns-in_err-count_bin : goal.returns-in_err-count_bin
unfolding bins_counted
returns-in_err-count_bin c =
    let p = err_from_is_err_and c.from_residual.result c.from_residual.ensures.1 in
    rw (p.1, p.2) (left_stops c.in_err-count_bin.field-0.0 c.made-item.result c.loop-made.invariant c.loop-made-test.true c.made-item.is c.in_err-count_bin.ensures)

pub loop-made-preserved : goal.loop-made-preserved
loop-made-preserved c = left_more c.made-item.result c.count_bin.new.counts c.loop-made.invariant c.loop-made-test.true c.made-item.is c.in_ok-count_bin.ensures

pub returns : goal.returns
unfolding bins_counted
returns c = left_done c.loop-made.invariant c.loop-made-test.false
