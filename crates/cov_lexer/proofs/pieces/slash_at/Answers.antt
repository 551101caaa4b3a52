use Rattle.std.proofs.Common.{arith, refl, sym}
use Rattle.cov_lexer.proofs.Found.{line_piece, block_piece, block_open, slash_alone, line_inside, block_inside}
use Rattle.cov_lexer.proofs.pieces.slash_at.Goals as goal

pub run_end-requires : goal.run_end-requires
run_end-requires c = line_inside c.args.text.now c.args.«at» c.requires.inside (sym c.if-stands.ensures)

pub returns-then-stands : goal.returns-then-stands
returns-then-stands c = rw c.separator.ensures (record {
  stands = line_piece c.args.text.now c.args.«at» c.run_end.result c.requires.inside c.requires.slash (sym c.if-stands.ensures) c.run_end.ensures;
  more = (let r = c.run_end.ensures.from in omega arith);
  inside = c.run_end.ensures.inside;
})

pub comment_close-requires : goal.comment_close-requires
comment_close-requires c = block_inside c.args.text.now c.args.«at» c.requires.inside (sym c.if-stands-2.ensures)

pub returns-in-Some : goal.returns-in-Some
returns-in-Some c = rw c.separator-in-Some.ensures (record {
  stands = block_piece c.args.text.now c.args.«at» c.in-Some.close c.requires.inside c.requires.slash (sym c.if-stands-2.ensures) c.in-Some.ensures;
  more = (let r = c.in-Some.ensures.behind in omega arith);
  inside = c.in-Some.ensures.inside;
})

pub returns-in-None : goal.returns-in-None
returns-in-None c = ((sym c.if-stands-2.ensures, block_open c.args.text.now c.args.«at» c.requires.inside c.requires.slash (sym c.if-stands-2.ensures) c.in-None.ensures), refl)

pub operator_only-requires-clause-alone : goal.operator_only-requires-clause-alone
operator_only-requires-clause-alone c = slash_alone c.args.text.now c.args.«at» c.requires.inside c.requires.slash (sym c.if-stands.ensures) (sym c.if-stands-2.ensures)
