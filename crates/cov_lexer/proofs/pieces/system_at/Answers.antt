use Rattle.std.proofs.Common.{arith, refl}
use Rattle.cov_lexer.proofs.Found.{system_piece, dollar_alone, dollar_no_comment}
use Rattle.cov_lexer.proofs.pieces.system_at.Goals as goal

pub operator_only-requires-clause-alone : goal.operator_only-requires-clause-alone
operator_only-requires-clause-alone c = dollar_alone c.args.text.now c.args.«at» c.run_end-end.result c.requires.inside c.requires.dollar c.run_end-end.ensures c.if-end-at.true

pub returns : goal.returns
returns c = rw c.token.ensures (record {
  stands = (record { piece = system_piece c.args.text.now c.args.«at» c.run_end-end.result c.requires.inside c.requires.dollar c.run_end-end.ensures c.if-end-at.false; no_comment = dollar_no_comment c.args.text.now c.args.«at» c.requires.inside c.requires.dollar; within = tt }, refl);
  more = (let r = c.run_end-end.ensures.from in omega arith);
  inside = c.run_end-end.ensures.inside;
})
