use Rattle.std.proofs.Common.{◌≢◌, ◌<◌, ◌≤◌, ◌^◌, ◌∙◌, sym, arith, length}
use Rattle.std.proofs.lemmas.Bool.{eqb-false}
use Rattle.cov_lexer.specs.declared.bytes.Base.TheVariants.{Decimal}
use Rattle.cov_lexer.specs.Literals.{value_of}
use Rattle.cov_lexer.proofs.Numbers.{decimal_over, sized_none}
use Rattle.cov_lexer.proofs.literals.meaning.Goals as goal

pub returns-in_err-width : goal.returns-in_err-width
returns-in_err-width c =
    let ne : length c.args.size.now ≢ 0 = eqb-false (length c.args.size.now) 0 (sym c.if-is_empty.ensures) in
    let l : 0 < length c.args.size.now = omega arith in
    let o : 2 ^ 64 ≤ value_of Decimal c.args.size.now = decimal_over c.args.size.now c.in_err-width.ensures.none in
    c.from_residual.ensures ∙ sym (sized_none c.args.size.now c.args.signed c.args.base c.args.digits.now l (omega arith))
