use Rattle.cov_grammar.proofs.Steps.{exits}
use Rattle.expr_parser.proofs.ExprWalks.{whole_reads, whole_fails}
use Rattle.expr_parser.proofs.expr.whole_expr.Goals as goal

pub returns-in_err-expr : goal.returns-in_err-expr
returns-in_err-expr c = exits _ _ _ _ _ c.from_residual.ensures.1 (whole_fails c.args.reader.text.now c.args.reader.tokens.now c.args.standing c.in_err-expr.ensures)

pub returns : goal.returns
returns c = whole_reads c.args.reader.text.now c.args.reader.tokens.now c.args.standing c.in_ok-expr.ensures
