use Rattle.std.proofs.Common.{refl}
use Rattle.cov_lexer.specs.Operators.{sort_of}
use Rattle.cov_lexer.proofs.Found.{operator_token, operator_nothing}
use Rattle.cov_lexer.proofs.pieces.operator_only.Goals as goal

pub returns-in-Some : goal.returns-in-Some
returns-in-Some c = rw (c.token.ensures, c.sort_of.ensures) (record {
  stands = (operator_token c.args.text.now c.args.«at» c.in-Some.«end» (sort_of c.in-Some.spelled) c.requires.alone c.in-Some.ensures.longest, c.in-Some.ensures.spelled);
  more = c.in-Some.ensures.longest.more;
  inside = c.in-Some.ensures.longest.inside;
})

pub returns-in-None : goal.returns-in-None
returns-in-None c = ((operator_nothing c.args.text.now c.args.«at» c.requires.inside c.requires.alone c.in-None.ensures, c.requires.no_quote), refl)
