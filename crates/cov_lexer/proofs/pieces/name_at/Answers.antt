use Rattle.std.proofs.Common.{◌∙◌, arith, refl, sym, ap}
use Rattle.cov_lexer.specs.Spellings.{or_other}
use Rattle.cov_lexer.proofs.Tables.{keyword_is, keyword_not}
use Rattle.cov_lexer.proofs.Found.{keyword_piece, ident_piece, letter_no_comment}
use Rattle.cov_lexer.proofs.pieces.name_at.Goals as goal

pub returns-in-Some : goal.returns-in-Some
returns-in-Some c =
    let found = sym c.keyword.ensures ∙ c.in-Some.is in
    rw c.token.ensures (record {
      stands = (record { piece = keyword_piece c.args.text.now c.args.«at» c.run_end-end.result c.requires.inside c.requires.letter c.run_end-end.ensures (keyword_is _ _ found); no_comment = letter_no_comment c.args.text.now c.args.«at» c.requires.inside c.requires.letter; within = tt }, ap or_other (sym found));
      more = (let r = c.run_end-end.ensures.from in omega arith);
      inside = c.run_end-end.ensures.inside;
    })

pub returns-then-end-at-gt-NAME_LIMIT : goal.returns-then-end-at-gt-NAME_LIMIT
returns-then-end-at-gt-NAME_LIMIT c = (
  (
    c.run_end-end.result,
    ident_piece c.args.text.now c.args.«at» c.run_end-end.result c.requires.inside c.requires.letter c.run_end-end.ensures (keyword_not _ (sym c.keyword.ensures ∙ c.in_default.is)),
    letter_no_comment c.args.text.now c.args.«at» c.requires.inside c.requires.letter,
    (let r = c.run_end-end.ensures.from in omega (arith, c.if-end-at-gt-NAME_LIMIT.true)),
  ),
  refl,
)

pub returns : goal.returns
returns c = rw c.token-2.ensures (record {
  stands = (record { piece = ident_piece c.args.text.now c.args.«at» c.run_end-end.result c.requires.inside c.requires.letter c.run_end-end.ensures (keyword_not _ (sym c.keyword.ensures ∙ c.in_default.is)); no_comment = letter_no_comment c.args.text.now c.args.«at» c.requires.inside c.requires.letter; within = (let r = c.run_end-end.ensures.from in omega (arith, c.if-end-at-gt-NAME_LIMIT.false)) }, refl);
  more = (let r = c.run_end-end.ensures.from in omega arith);
  inside = c.run_end-end.ensures.inside;
})
