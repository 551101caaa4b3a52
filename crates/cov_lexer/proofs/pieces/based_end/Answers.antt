use Rattle.std.proofs.Common.{◌≡◌, ◌+◌, true, false, get_or}
use Rattle.cov_lexer.specs.Bytes.{is_sign}
use Rattle.cov_lexer.proofs.Found.{based_signed, based_unsigned}
use Rattle.cov_lexer.proofs.pieces.based_end.Goals as goal

pub returns-then-is_sign : goal.returns-then-is_sign
returns-then-is_sign c =
    let a : get_or c.args.text.now c.args.«at» 0 ≡ 39 = (let x = c.byte_at.ensures in let y = c.if-byte_at-ne39.false in cc) in
    let s : is_sign (get_or c.args.text.now (c.args.«at» + 1) 0) ≡ true = (let x = c.is_sign.ensures in let y = c.byte_at-2.ensures in let z = c.if-is_sign.true in cc) in
    based_signed c.args.text.now c.args.«at» c.marked_end.result a s c.marked_end.ensures

pub returns-else-is_sign : goal.returns-else-is_sign
returns-else-is_sign c =
    let a : get_or c.args.text.now c.args.«at» 0 ≡ 39 = (let x = c.byte_at.ensures in let y = c.if-byte_at-ne39.false in cc) in
    let s : is_sign (get_or c.args.text.now (c.args.«at» + 1) 0) ≡ false = (let x = c.is_sign.ensures in let y = c.byte_at-2.ensures in let z = c.if-is_sign.false in cc) in
    based_unsigned c.args.text.now c.args.«at» c.marked_end-else-is_sign.result a s c.marked_end-else-is_sign.ensures
