use Rattle.std.proofs.lemmas.Result.{err_from_is_err_and}
use Rattle.vcd_reader.proofs.Each.{next_is, goes_on, stops, is_done}
use Rattle.vcd_reader.proofs.signals.add_codes.Goals as goal

pub returns-in_err-add_code : goal.returns-in_err-add_code
returns-in_err-add_code c =
    let p = err_from_is_err_and c.from_residual.result c.from_residual.ensures.1 in
    rw (p.1, p.2) (stops c.in_err-add_code.field-0.0 (next_is c.loop-signal.invariant c.in-Some.ensures.cases.0) c.in_err-add_code.ensures)

pub loop-signal-preserved : goal.loop-signal-preserved
loop-signal-preserved c = goes_on c.add_code.new.found (next_is c.loop-signal.invariant c.in-Some.ensures.cases.0) c.in_ok-add_code.ensures

pub returns : goal.returns
returns c = is_done c.loop-signal.rest.now c.loop-signal.invariant c.in_default.ensures.cases
