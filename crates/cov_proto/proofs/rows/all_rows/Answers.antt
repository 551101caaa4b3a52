use Rattle.std.proofs.Common.{◌∙◌, ap, Err}
use Rattle.std.proofs.lemmas.Result.{err_from_is_err_and}
use Rattle.cov_proto.proofs.Loops.{puts_on, put_ends, is_done, is_over, is_zero, is_some, at_end, not_at_end}
use Rattle.cov_proto.proofs.rows.all_rows.Goals as goal

pub returns-then-is_empty : goal.returns-then-is_empty
returns-then-is_empty g c = rw c.of.ensures (is_done (is_zero _ _ c.is_empty.ensures c.if-is_empty.true) c.loop.invariant)

pub returns-in_err-rest : goal.returns-in_err-rest
returns-in_err-rest g c =
    let p = err_from_is_err_and c.from_residual.result c.from_residual.ensures.1 in
    rw (p.1, p.2) (put_ends c.in_err-rest.field-0.0 c.loop-test.true (is_some _ _ c.is_empty.ensures c.if-is_empty.false) c.in_err-rest.ensures c.loop.invariant)

pub loop-preserved : goal.loop-preserved
loop-preserved g c = puts_on c.push_row.new.rows.items c.in_ok-rest.rest.now c.loop-test.true (is_some _ _ c.is_empty.ensures c.if-is_empty.false) c.in_ok-rest.ensures c.loop.invariant

pub returns-in_err-end : goal.returns-in_err-end
returns-in_err-end g c =
    let p = err_from_is_err_and c.from_residual-in_err-end.result c.from_residual-in_err-end.ensures.1 in
    let n = not_at_end c.loop.rest.now c.in_err-end.field-0.0.left c.in_err-end.ensures in
    rw (p.1, p.2) (is_over c.loop-test.false n.0 c.loop.invariant ∙ ap Err n.1)

pub returns : goal.returns
returns g c = rw c.of-2.ensures (is_done (at_end c.loop.rest.now c.in_ok-end.field-0 c.in_ok-end.ensures) c.loop.invariant)
