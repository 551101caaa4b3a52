-- How many links a door has handed out after one more.
use Rattle.std.proofs.Common.{◌≡◌, ℕ, zero, suc, ◌+◌, ◌-◌, ◌^◌, ◌<◌, refl, arith}
use Rattle.std.specs.Prelude.{min}

pub handed_more : (first before now round : ℕ) → (0 < round → before ≡ min (first + round) (2 ^ 64 - 1)) → (round ≡ 0 → before ≡ first) → now ≡ min (before + 1) (2 ^ 64 - 1) → now ≡ min (first + (round + 1)) (2 ^ 64 - 1)
handed_more first before now zero some none is = let e = none refl in omega (arith, e, is)
handed_more first before now (suc n) some none is = let e = some (omega arith) in omega (arith, e, is)
