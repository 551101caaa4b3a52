use Rattle.std.proofs.lemmas.Result.{err_from_is_err_and}
use Rattle.covd_filling.proofs.batches.count_source.Goals as goal

pub returns-in_err-rec : goal.returns-in_err-rec
returns-in_err-rec c files before now origin read =
    let p = err_from_is_err_and c.from_residual.result c.from_residual.ensures.1 in
    rw (p.1, p.2) (c.in_err-rec.ensures files before now origin read)

pub returns : goal.returns
returns c files before now origin read =
    rw c.in_ok-rec-2.ensures (c.in_ok-rec.ensures files before now origin read, c.in_ok-tally.ensures)
