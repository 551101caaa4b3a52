use Rattle.std.proofs.Common.{◌≡◌, ℤ, pos, ◌+ℤ◌, ◌≤ℤ◌, ◌-◌, ◌^◌, subst}
use Rattle.cov_base.specs.Types.{lowest, highest}
use Rattle.point_sampler.proofs.quick.has_keys.Goals as goal

pub returns : goal.returns
returns c = λ yes.
    let typ = c.args.typ in
    let least = c.args.lookup.now.least in
    let low : c.lowest_of-low.result ≡ lowest typ.width typ.signed = cc in
    let high : c.highest_of-high.result ≡ highest typ.width typ.signed = cc in
    record {
      low = subst (λ (z : ℤ). least ≤ℤ z) low (c.has_key.ensures.low c.if-not-has_key.false);
      high = subst (λ (z : ℤ). z ≤ℤ (least +ℤ pos (2 ^ 64 - 1))) high (c.has_key-2.ensures.high yes);
    }
