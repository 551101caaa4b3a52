use Rattle.std.proofs.Common.{◌≡◌, ◌<◌, ◌≤◌, ◌^◌, ◌*◌, arith, sym}
use Rattle.cov_lexer.specs.Literals.{digit_bits}
use Rattle.cov_lexer.proofs.Numbers.{limits, above_none}
use Rattle.cov_lexer.proofs.literals.above.Goals as goal

pub overflow_sub-result : goal.overflow_sub-result
overflow_sub-result c =
    let h : c.count_digits.result * c.from.result < c.args.width = omega arith in
    let m : 2 ^ (c.count_digits.result * c.from.result) ≤ 2 ^ c.args.width = limits _ _ h in
    omega arith

pub returns-then-known-from : goal.returns-then-known-from
returns-then-known-from c =
    let b : c.from.result ≡ digit_bits c.args.base = cc in
    sym (above_none c.args.base c.args.width c.args.digits.now (rw (sym c.count_digits.ensures, sym b) (omega arith)))
