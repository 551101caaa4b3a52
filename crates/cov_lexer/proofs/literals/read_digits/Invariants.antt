use Rattle.std.proofs.Common.{◌≡◌, drop}
use Rattle.cov_lexer.specs.Literals.{number_from, digit_value, digit_free}
use Rattle.cov_lexer.proofs.literals.read_digits.Given as goal

abbrev pub invariant-loop-digit : goal.invariant-loop-digit
invariant-loop-digit l = record {
  bits : number_from l.radix digit_value 0 l.digits ≡ number_from l.radix digit_value l.bits (drop l.digit-index l.digits);
  free : number_from l.radix (digit_free l.base) 0 l.digits ≡ number_from l.radix (digit_free l.base) l.free (drop l.digit-index l.digits);
}
