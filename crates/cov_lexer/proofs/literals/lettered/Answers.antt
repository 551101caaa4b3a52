use Rattle.std.proofs.Common.{◌≡◌, ◌-◌, ◌∙◌, Some, true, false, sym, ap, take, drop, length, length-drop, get_or, arith}
use Rattle.std.proofs.lemmas.List.{take_all}
use Rattle.cov_lexer.specs.Bytes.{is_base_digit}
use Rattle.cov_lexer.specs.Literals.{base_of, meaning}
use Rattle.cov_lexer.proofs.Meanings.{no_digit, more_behind, all_digits}
use Rattle.cov_lexer.proofs.literals.lettered.Goals as goal

pub returns-then-not-is_digit : goal.returns-then-not-is_digit
returns-then-not-is_digit c =
    let h : base_of (get_or c.args.text.now c.args.«at» 0) ≡ Some c.in-Some.base = (let x = c.of.ensures in let y = c.byte_at.ensures in let z = c.in-Some.is in cc) in
    let d : is_base_digit c.in-Some.base (get_or c.args.text.now c.run_end-first.result 0) ≡ false = (let x = c.is_digit.ensures in let y = c.byte_at-2.ensures in let z = c.if-not-is_digit.true in cc) in
    sym (no_digit c.args.text.now c.args.size.now c.args.signed c.args.«at» c.run_end-first.result c.in-Some.base h c.run_end-first.ensures d)

pub returns-then-run_end-text : goal.returns-then-run_end-text
returns-then-run_end-text c =
    let h : base_of (get_or c.args.text.now c.args.«at» 0) ≡ Some c.in-Some.base = (let x = c.of.ensures in let y = c.byte_at.ensures in let z = c.in-Some.is in cc) in
    let d : is_base_digit c.in-Some.base (get_or c.args.text.now c.run_end-first.result 0) ≡ true = (let x = c.is_digit.ensures in let y = c.byte_at-2.ensures in let z = c.if-not-is_digit.false in cc) in
    sym (more_behind c.args.text.now c.args.size.now c.args.signed c.args.«at» c.run_end-first.result c.run_end.result c.in-Some.base h c.run_end-first.ensures d c.run_end.ensures c.if-run_end-text.true)

pub returns : goal.returns
returns c =
    let h : base_of (get_or c.args.text.now c.args.«at» 0) ≡ Some c.in-Some.base = (let x = c.of.ensures in let y = c.byte_at.ensures in let z = c.in-Some.is in cc) in
    let d : is_base_digit c.in-Some.base (get_or c.args.text.now c.run_end-first.result 0) ≡ true = (let x = c.is_digit.ensures in let y = c.byte_at-2.ensures in let z = c.if-not-is_digit.false in cc) in
    let e : take (length c.args.text.now - c.run_end-first.result) (drop c.run_end-first.result c.args.text.now) ≡ drop c.run_end-first.result c.args.text.now = take_all _ _ (omega (arith, length-drop c.run_end-first.result c.args.text.now)) in
    c.meaning.ensures ∙ (ap (λ xs. meaning c.args.size.now c.args.signed c.in-Some.base xs) e ∙
    sym (all_digits c.args.text.now c.args.size.now c.args.signed c.args.«at» c.run_end-first.result c.run_end.result c.in-Some.base h c.run_end-first.ensures d c.run_end.ensures c.if-run_end-text.false))
