use Rattle.std.proofs.lemmas.Result.{err_from_is_err_and}
use Rattle.elab_bins.specs.Rest.{entries_counted}
use Rattle.elab_base.proofs.Folds.{left_more, left_stops, left_done}
use Rattle.elab_bins.proofs.rest.count_entries.Goals as goal

pub returns-in_err-count_entry : goal.returns-in_err-count_entry
unfolding entries_counted
returns-in_err-count_entry c =
    let p = err_from_is_err_and c.from_residual.result c.from_residual.ensures.1 in
    rw (p.1, p.2) (left_stops c.in_err-count_entry.field-0.0 c.entry-item.result c.loop-entry.invariant c.loop-entry-test.true c.entry-item.is c.in_err-count_entry.ensures)

pub loop-entry-preserved : goal.loop-entry-preserved
loop-entry-preserved c = left_more c.entry-item.result c.count_entry.new.count c.loop-entry.invariant c.loop-entry-test.true c.entry-item.is c.in_ok-count_entry.ensures

pub returns : goal.returns
unfolding entries_counted
returns c = left_done c.loop-entry.invariant c.loop-entry-test.false
