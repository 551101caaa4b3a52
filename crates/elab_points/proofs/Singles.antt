-- Too many numbers for a bin each.
use Rattle.std.proofs.Common.{◌≡◌, ℕ, ◌+◌, ◌<◌, arith, refl, Err, false}
use Rattle.std.specs.Prelude.{nat_le}
use Rattle.cov_ground.specs.Limits.{most_bins}
use Rattle.elab_base.specs.declared.fault.ElabKind.TheVariants as kind
use Rattle.elab_base.specs.Gives.{needs}

pub too_many : (have n at : ℕ) → most_bins < n → needs (nat_le (have + n) most_bins) kind.TooManyBins at ≡ Err (kind.TooManyBins, at)
unfolding needs
too_many have n at lt = let e : nat_le (have + n) most_bins ≡ false = grind (arith, lt) in rw e refl
