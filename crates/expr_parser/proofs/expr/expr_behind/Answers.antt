use Rattle.std.proofs.Common.{[], ◌∷◌}
use Rattle.cov_grammar.proofs.Steps.{exits}
use Rattle.cov_grammar.proofs.ExprLaws.{expr_lawful}
use Rattle.token_reader.proofs.Chains.{no_part, part}
use Rattle.expr_parser.proofs.expr.expr_behind.Goals as goal

pub returns-in_default : goal.returns-in_default
returns-in_default c = rw c.of.ensures (no_part (c.args.kind ∷ []) (expr_lawful c.args.reader.text.now c.args.reader.tokens.now) c.in_default.ensures.none)

pub returns-in_err-expr : goal.returns-in_err-expr
returns-in_err-expr c = exits _ _ _ _ _ c.from_residual.ensures.1 ((part (c.args.kind ∷ []) (expr_lawful c.args.reader.text.now c.args.reader.tokens.now) (c.in-Some.ensures.some _)).fails c.in_err-expr.ensures)

pub returns : goal.returns
returns c = rw (c.of-2.ensures, c.put.ensures) ((part (c.args.kind ∷ []) (expr_lawful c.args.reader.text.now c.args.reader.tokens.now) (c.in-Some.ensures.some _)).reads c.in_ok-expr.ensures)
