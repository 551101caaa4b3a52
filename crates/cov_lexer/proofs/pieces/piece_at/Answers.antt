use Rattle.std.proofs.Common.{arith, sym}
use Rattle.cov_lexer.proofs.Found.{blank_piece, other_only}
use Rattle.cov_lexer.proofs.pieces.piece_at.Goals as goal

pub returns-then-is_blank : goal.returns-then-is_blank
returns-then-is_blank c = rw c.separator.ensures (record {
  stands = blank_piece c.args.text.now c.args.«at» c.requires.inside (sym c.if-is_blank.ensures);
  more = omega arith;
  inside = (let l = c.requires.inside in omega arith);
})

pub operator_only-requires-clause-alone : goal.operator_only-requires-clause-alone
operator_only-requires-clause-alone c = other_only c.args.text.now c.args.«at» c.requires.inside (sym c.if-is_blank.ensures) (sym c.if-is_letter.ensures) (sym c.if-is_digit.ensures)
    (omega arith) (omega arith) (omega arith) (omega arith)
