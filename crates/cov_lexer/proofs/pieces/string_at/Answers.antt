use Rattle.std.proofs.Common.{◌≡◌, ◌≢◌, get_or, arith, refl}
use Rattle.cov_lexer.proofs.Found.{string_piece, string_open, quote_inside, quote_no_comment}
use Rattle.cov_lexer.proofs.pieces.string_at.Goals as goal

pub returns-then-byte_at-ne34 : goal.returns-then-byte_at-ne34
returns-then-byte_at-ne34 c =
    let n : get_or c.args.text.now c.run_end-end.result 0 ≢ 34 = λ e. c.if-byte_at-ne34.true (let x = c.byte_at.ensures in cc) in
    ((string_open c.args.text.now c.args.«at» c.run_end-end.result c.requires.inside c.requires.quote c.run_end-end.ensures n, c.requires.quote), refl)

pub returns : goal.returns
returns c =
    let q : get_or c.args.text.now c.run_end-end.result 0 ≡ 34 = (let x = c.byte_at.ensures in let y = c.if-byte_at-ne34.false in cc) in
    rw c.token.ensures (record {
      stands = (record { piece = string_piece c.args.text.now c.args.«at» c.run_end-end.result c.requires.inside c.requires.quote c.run_end-end.ensures q; no_comment = quote_no_comment c.args.text.now c.args.«at» c.requires.inside c.requires.quote; within = tt }, refl);
      more = (let r = c.run_end-end.ensures.from in omega arith);
      inside = (let r = quote_inside c.args.text.now c.run_end-end.result q in omega arith);
    })
