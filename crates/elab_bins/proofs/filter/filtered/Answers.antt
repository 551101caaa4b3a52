use Rattle.std.proofs.Common.{ap, Err}
use Rattle.cov_base.specs.Sets.{written}
use Rattle.elab_bins.proofs.Filters.{many_refused}
use Rattle.elab_bins.proofs.filter.filtered.Goals as goal

pub returns-in-Err-TooManyValues : goal.returns-in-Err-TooManyValues
returns-in-Err-TooManyValues c =
    let many = c.in-Err-TooManyValues.ensures.too_many c.in-Err-TooManyValues.field-0-0 (ap Err c.in-Err-TooManyValues.field-0-is) in
    rw c.at.ensures (many_refused c.args.term.now (written c.args.numbers.now) c.args.at many)
