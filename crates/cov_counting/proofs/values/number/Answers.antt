use Rattle.std.proofs.Common.{◌∙◌, Some, ap, sym, arith}
use Rattle.std.specs.Prelude.{ℤ, ℕ, pos, Bool, true}
use Rattle.bin_spec.specs.Types.{number_of}
use Rattle.cov_counting.proofs.Plain.{wide_plain, zero_width}
use Rattle.cov_counting.proofs.values.number.Goals as goal

pub returns-then-width-gt-MOST_BITS : goal.returns-then-width-gt-MOST_BITS
returns-then-width-gt-MOST_BITS c = c.plain-then-width-gt-MOST_BITS.ensures ∙ ap (λ (z : ℤ). Some z) (sym (wide_plain c.args.width c.args.bits c.args.signed (omega arith) (omega arith)))

pub returns-then-width-eq0 : goal.returns-then-width-eq0
returns-then-width-eq0 c =
    c.plain-then-width-eq0.ensures ∙ ap (λ (n : ℕ). Some (pos n)) c.saturating_sub.ensures ∙ ap (λ (z : ℤ). Some z) (sym (zero_width c.args.bits))
    ∙ ap (λ (w : ℕ). Some (number_of w true c.args.bits)) (sym c.if-width-eq0.true) ∙ ap (λ (s : Bool). Some (number_of c.args.width s c.args.bits)) (sym c.if-not-signed.false)
