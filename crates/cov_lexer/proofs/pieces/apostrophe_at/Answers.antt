use Rattle.std.proofs.Common.{arith, refl, inr}
use Rattle.cov_lexer.proofs.Found.{unsized_piece, apostrophe_alone, apostrophe_no_comment}
use Rattle.cov_lexer.proofs.pieces.apostrophe_at.Goals as goal

pub operator_only-requires-clause-alone : goal.operator_only-requires-clause-alone
operator_only-requires-clause-alone c = apostrophe_alone c.args.text.now c.args.«at» c.requires.inside c.requires.apostrophe c.in_default.ensures

pub literal_token-requires : goal.literal_token-requires
literal_token-requires c = record {
  piece = unsized_piece c.args.text.now c.args.«at» c.in-Some.last c.requires.inside c.requires.apostrophe c.in-Some.ensures;
  literal = inr refl;
  no_comment = apostrophe_no_comment c.args.text.now c.args.«at» c.requires.inside c.requires.apostrophe;
  more = (let d = c.in-Some.ensures.more in omega arith);
  inside = c.in-Some.ensures.inside;
  short = c.requires.short;
}
