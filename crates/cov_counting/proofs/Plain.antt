-- Bits of more places than a word read without a sign.
use Rattle.std.proofs.Common.{◌≡◌, ℕ, zero, suc, ◌-◌, ◌*◌, ◌<◌, ◌≤◌, ◌^◌, Bool, true, false, ap, refl, ◌∙◌, arith}
use Rattle.std.specs.Prelude.{pos, ◌-ℤ◌, if◌then◌else◌}
use Rattle.std.proofs.Math.Pow.{pow_mono}
use Rattle.std.proofs.Math.IntN.{ -ℤ_one}
use Rattle.std.proofs.lemmas.Bool.{lt-leb, le-leb}
use Rattle.bin_spec.specs.Types.{number_of}

pub wide_plain : (width bits : ℕ) (signed : Bool) → 64 < width → bits < 2 ^ 64 → number_of width signed bits ≡ pos bits
wide_plain width bits false lt few = refl
wide_plain width bits true lt few =
    let much : 2 ^ 65 ≤ 2 ^ width = pow_mono {i = 65} {j = width} (omega (arith, lt)) in
    let less : 2 * bits < 2 ^ width = omega (arith, much, few) in
    ap (λ (b : Bool). if b then pos bits -ℤ pos (2 ^ width) else pos bits) (lt-leb (2 ^ width) (2 * bits) less)

-- of no places
pub zero_width : (bits : ℕ) → number_of 0 true bits ≡ pos (bits - 1)
zero_width zero = refl
zero_width (suc n) = ap (λ (b : Bool). if b then pos (suc n) -ℤ pos 1 else pos (suc n)) (le-leb 1 (2 * suc n) (omega arith)) ∙ -ℤ_one (pos (suc n)) ∙ (let e : n ≡ suc n - 1 = omega arith in ap pos e)
