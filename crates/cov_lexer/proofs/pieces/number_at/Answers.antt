use Rattle.std.proofs.Common.{arith, refl, inl, inr}
use Rattle.cov_lexer.proofs.Found.{decimal_piece, sized_piece, digit_no_comment}
use Rattle.cov_lexer.proofs.pieces.number_at.Goals as goal

pub literal_token-requires : goal.literal_token-requires
literal_token-requires c = record {
  piece = sized_piece c.args.text.now c.args.«at» c.run_end-end.result c.run_end-apostrophe.result c.in-Some.last c.requires.inside c.requires.digit c.run_end-end.ensures c.run_end-apostrophe.ensures c.in-Some.ensures;
  literal = inr refl;
  no_comment = digit_no_comment c.args.text.now c.args.«at» c.requires.inside c.requires.digit;
  more = (let a = c.run_end-end.ensures.from in let b = c.run_end-apostrophe.ensures.from in let d = c.in-Some.ensures.more in omega arith);
  inside = c.in-Some.ensures.inside;
  short = c.requires.short;
}

pub literal_token-requires-in-None : goal.literal_token-requires-in-None
literal_token-requires-in-None c = record {
  piece = decimal_piece c.args.text.now c.args.«at» c.run_end-end.result c.run_end-apostrophe.result c.requires.inside c.requires.digit c.run_end-end.ensures c.run_end-apostrophe.ensures c.in-None.ensures;
  literal = inl refl;
  no_comment = digit_no_comment c.args.text.now c.args.«at» c.requires.inside c.requires.digit;
  more = (let a = c.run_end-end.ensures.from in omega arith);
  inside = c.run_end-end.ensures.inside;
  short = c.requires.short;
}
