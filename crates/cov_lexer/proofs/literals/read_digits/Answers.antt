use Rattle.std.proofs.Common.{◌≡◌, ◌+◌, ◌*◌, ◌≤◌, ◌^◌, false, inl, inr, drop, sym, ◌∙◌, ap, get_or, arith}
use Rattle.std.proofs.Math.ListN.{drop_of_length-le}
use Rattle.cov_lexer.specs.Literals.{value_of, free_of, is_gap, number_from, digit_value, digit_free}
use Rattle.cov_lexer.proofs.Numbers.{radix_one, number_over}
use Rattle.cov_lexer.proofs.literals.read_digits.Goals as goal

pub returns-in_err-bits-clause-none : goal.returns-in_err-bits-clause-none
unfolding value_of
returns-in_err-bits-clause-none c =
    let one : 1 ≤ c.radix-radix.result = (let e = c.radix-radix.ensures in let o = radix_one c.args.base in omega arith) in
    let gap : is_gap (get_or c.args.digits.now c.loop-digit.digit-index 0) ≡ false = (let x = c.is_gap.ensures in let y = c.if-not-is_gap.true in cc) in
    let k : 2 ^ 64 ≤ c.loop-digit.bits * c.radix-radix.result + digit_value (get_or c.args.digits.now c.loop-digit.digit-index 0) = (let x = c.digit_value.ensures in omega (arith, c.in_err-bits.ensures)) in
    let over = number_over c.radix-radix.result digit_value c.loop-digit.bits c.loop-digit.digit-index (2 ^ 64) c.args.digits.now one c.loop-digit-test.true gap k in
    rw c.from_residual.ensures (inl (rw (sym c.radix-radix.ensures, c.loop-digit.invariant.bits) over))

pub returns-in_err-free-clause-none : goal.returns-in_err-free-clause-none
unfolding free_of
returns-in_err-free-clause-none c =
    let one : 1 ≤ c.radix-radix.result = (let e = c.radix-radix.ensures in let o = radix_one c.args.base in omega arith) in
    let gap : is_gap (get_or c.args.digits.now c.loop-digit.digit-index 0) ≡ false = (let x = c.is_gap.ensures in let y = c.if-not-is_gap.true in cc) in
    let k : 2 ^ 64 ≤ c.loop-digit.free * c.radix-radix.result + digit_free c.args.base (get_or c.args.digits.now c.loop-digit.digit-index 0) = (let x = c.digit_free.ensures in omega (arith, c.in_err-free.ensures)) in
    let over = number_over c.radix-radix.result (digit_free c.args.base) c.loop-digit.free c.loop-digit.digit-index (2 ^ 64) c.args.digits.now one c.loop-digit-test.true gap k in
    rw c.from_residual-in_err-free.ensures (inr (rw (sym c.radix-radix.ensures, c.loop-digit.invariant.free) over))

pub returns-clause-bits : goal.returns-clause-bits
unfolding value_of
returns-clause-bits c =
    let e : drop c.loop-digit.digit-index c.args.digits.now ≡ _ = drop_of_length-le c.args.digits.now c.loop-digit-test.false in
    rw (sym c.radix-radix.ensures) (sym (c.loop-digit.invariant.bits ∙ ap (λ xs. number_from c.radix-radix.result digit_value c.loop-digit.bits xs) e))

pub returns-clause-free : goal.returns-clause-free
unfolding free_of
returns-clause-free c =
    let e : drop c.loop-digit.digit-index c.args.digits.now ≡ _ = drop_of_length-le c.args.digits.now c.loop-digit-test.false in
    rw (sym c.radix-radix.ensures) (sym (c.loop-digit.invariant.free ∙ ap (λ xs. number_from c.radix-radix.result (digit_free c.args.base) c.loop-digit.free xs) e))
