use Rattle.std.proofs.Common.{arith}
use Rattle.point_tables.proofs.Asking.{asked_by_bits}
use Rattle.point_tables.proofs.questions.by_pattern.Goals as goal

pub returns : goal.returns
returns c = λ bins v word is.
    let same = c.has_type.ensures c.if-not-has_type.false in
    rw (c.ones.ensures, c.width.ensures.value) (asked_by_bits c.args.pattern.now c.args.typ.width c.args.typ.signed bins v word same.0 same.1 c.width.ensures.range.1 (omega arith) is.low is.high is.bits)
