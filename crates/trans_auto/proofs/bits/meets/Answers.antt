use Rattle.std.proofs.Common.{◌<◌, ◌^◌, ℕ, ap, sym, ◌∙◌, arith}
use Rattle.std.specs.Prelude.{nat_eq, bit_and}
use Rattle.std.proofs.lemmas.Bool.{eqb-false, ne_eqb, not-true, not_from_false, false≢true, and_parts, and_from}
use Rattle.std.proofs.lemmas.Nat.{and_le_l}
use Rattle.trans_auto.specs.Masks.{has_bit}
use Rattle.trans_auto.proofs.BitLemmas.{has-and, some-bit, no-bit}
use Rattle.trans_auto.proofs.bits.meets.Goals as goal

below : (a b : ℕ) → a < 2 ^ 128 → bit_and a b < 2 ^ 128
below a b small = omega (arith, small, and_le_l a b)

pub returns : goal.returns
returns c =
    let a = c.args.mask in
    let b = c.args.other in
    let n = bit_and a b in (
      (λ t.
          let s = some-bit n 128 (below a b (omega arith)) (eqb-false n 0 (not-true (nat_eq n 0) t)) in
          let both = and_parts (has_bit a s.0) (has_bit b s.0) (sym (has-and a b s.0) ∙ s.1) in
          (s.0, both.0, both.1)),
      (λ s. not_from_false (nat_eq n 0) (ne_eqb n 0 (λ zero.
          false≢true (sym (no-bit s.0) ∙ ap (λ m. has_bit m s.0) (sym zero) ∙ has-and a b s.0 ∙ and_from (has_bit a s.0) (has_bit b s.0) s.1 s.2)))),
    )
