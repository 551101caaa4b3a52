use Rattle.std.proofs.Common.{ap, Err}
use Rattle.elab_values.proofs.Widths.{wide_refused}
use Rattle.elab_values.proofs.ranges.pattern_set.Goals as goal

pub returns-in-Err-TooManyRanges : goal.returns-in-Err-TooManyRanges
returns-in-Err-TooManyRanges c =
    let many = (c.in-Err-TooManyRanges.ensures.too_many c.in-Err-TooManyRanges.field-0-0).0 (ap Err c.in-Err-TooManyRanges.field-0-is) in
    rw c.at.ensures (wide_refused c.args.pattern.now c.args.at many.0)
