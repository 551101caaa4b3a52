use Rattle.std.proofs.Common.{◌≤◌, ◌^◌, ◌∙◌, sym, arith}
use Rattle.cov_lexer.specs.declared.bytes.Base.TheVariants.{Decimal}
use Rattle.cov_lexer.specs.Literals.{value_of}
use Rattle.cov_lexer.proofs.Numbers.{decimal_over, decimal_none}
use Rattle.cov_lexer.proofs.literals.decimal_literal.Goals as goal

pub returns-in_err-bits : goal.returns-in_err-bits
returns-in_err-bits c =
    let o : 2 ^ 64 ≤ value_of Decimal c.args.text.now = decimal_over c.args.text.now c.in_err-bits.ensures.none in
    c.from_residual.ensures ∙ sym (decimal_none (value_of Decimal c.args.text.now) (omega arith))
