-- A word of ones, shifted.
use Rattle.std.proofs.Common.{◌≡◌, ℕ, ◌-◌, ◌/◌, ◌^◌, ◌≤◌, ap, ◌∙◌, arith}
use Rattle.std.proofs.lemmas.Nat.Bits.{ones_shr}

pub ones_is : (w : ℕ) → 1 ≤ w → w ≤ 64 → 18446744073709551615 / 2 ^ (64 - w) ≡ 2 ^ w - 1
ones_is w least most = let back : 64 - (64 - w) ≡ w = omega arith in ones_shr 64 (64 - w) (omega arith) ∙ ap (λ k. 2 ^ k - 1) back
