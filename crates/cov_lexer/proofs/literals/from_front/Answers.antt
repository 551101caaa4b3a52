use Rattle.std.proofs.Common.{◌≡◌, ◌∙◌, true, false, sym, get_or}
use Rattle.cov_lexer.specs.Bytes.{is_digit}
use Rattle.cov_lexer.proofs.Meanings.{unnumbered, all_numbered, sized_from}
use Rattle.cov_lexer.proofs.literals.from_front.Goals as goal

pub returns-then-not-is_digit : goal.returns-then-not-is_digit
returns-then-not-is_digit c =
    let d : is_digit (get_or c.args.text.now 0 0) ≡ false = (let x = c.byte_at.ensures in let y = c.is_digit.ensures in let z = c.if-not-is_digit.true in cc) in
    c.based_literal.ensures ∙ sym (unnumbered c.args.text.now d)

pub returns-then-end-text : goal.returns-then-end-text
returns-then-end-text c =
    let d : is_digit (get_or c.args.text.now 0 0) ≡ true = (let x = c.byte_at.ensures in let y = c.is_digit.ensures in let z = c.if-not-is_digit.false in cc) in
    c.decimal_literal.ensures ∙ sym (all_numbered c.args.text.now c.run_end-end.result d c.run_end-end.ensures c.if-end-text.true)

pub returns : goal.returns
returns c =
    let d : is_digit (get_or c.args.text.now 0 0) ≡ true = (let x = c.byte_at.ensures in let y = c.is_digit.ensures in let z = c.if-not-is_digit.false in cc) in
    c.based_literal-2.ensures ∙ sym (sized_from c.args.text.now c.run_end-end.result c.run_end-apostrophe.result d c.run_end-end.ensures c.run_end-apostrophe.ensures c.if-end-text.false)
