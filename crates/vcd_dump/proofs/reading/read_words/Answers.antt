use Rattle.std.proofs.lemmas.Result.{err_from_is_err_and}
use Rattle.vcd_dump.specs.Words.{words}
use Rattle.vcd_dump.proofs.Loops.{begins, goes_on, stops, is_done}
use Rattle.vcd_dump.proofs.reading.read_words.Goals as goal

pub loop-text-init : goal.loop-text-init
loop-text-init c = begins (words c.args.bytes.now) c.args.all.now

pub returns-in_err-read : goal.returns-in_err-read
returns-in_err-read c =
    let p = err_from_is_err_and c.from_residual.result c.from_residual.ensures.1 in
    rw (p.1, p.2) (stops c.in_err-read.field-0.0 _ _ c.loop-text.invariant c.in-Some.ensures.word c.in_err-read.ensures)

pub loop-text-preserved : goal.loop-text-preserved
loop-text-preserved c = goes_on _ _ c.read.new.self c.loop-text.invariant c.in-Some.ensures.word c.in_ok-read.ensures

pub returns : goal.returns
returns c = is_done c.loop-text.invariant c.in_default.ensures.word
