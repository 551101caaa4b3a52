use Rattle.std.proofs.Common.{◌≡◌, Some, true, false, get_or}
use Rattle.cov_lexer.specs.Bytes.{is_base_digit}
use Rattle.cov_lexer.specs.Literals.{base_of}
use Rattle.cov_lexer.proofs.Found.{marked_without_digit, marked_longest}
use Rattle.cov_lexer.proofs.pieces.marked_end.Goals as goal

pub returns-then-not-is_digit : goal.returns-then-not-is_digit
returns-then-not-is_digit c =
    let h : base_of (get_or c.args.text.now c.args.«at» 0) ≡ Some c.in-Some.base = (let x = c.of.ensures in let y = c.byte_at.ensures in let z = c.in-Some.is in cc) in
    let d : is_base_digit c.in-Some.base (get_or c.args.text.now c.run_end-first.result 0) ≡ false = (let x = c.is_digit.ensures in let y = c.byte_at-2.ensures in let z = c.if-not-is_digit.true in cc) in
    marked_without_digit c.args.text.now c.args.«at» c.run_end-first.result c.in-Some.base h c.run_end-first.ensures d

pub returns : goal.returns
returns c =
    let h : base_of (get_or c.args.text.now c.args.«at» 0) ≡ Some c.in-Some.base = (let x = c.of.ensures in let y = c.byte_at.ensures in let z = c.in-Some.is in cc) in
    let d : is_base_digit c.in-Some.base (get_or c.args.text.now c.run_end-first.result 0) ≡ true = (let x = c.is_digit.ensures in let y = c.byte_at-2.ensures in let z = c.if-not-is_digit.false in cc) in
    marked_longest c.args.text.now c.args.«at» c.run_end-first.result c.run_end.result c.in-Some.base h c.run_end-first.ensures d c.run_end.ensures
