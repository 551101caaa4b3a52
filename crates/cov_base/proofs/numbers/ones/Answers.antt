use Rattle.std.proofs.Common.{ℕ, ◌-◌, ◌/◌, ◌^◌, ◌∙◌, ap}
use Rattle.cov_base.proofs.Masks.{ones_is}
use Rattle.cov_base.proofs.numbers.ones.Goals as goal

pub returns : goal.returns
returns c =
    let range = c.get.ensures.range in
    ap (λ (w : ℕ). 18446744073709551615 / 2 ^ (64 - w)) c.get.ensures.value ∙ ones_is c.args.width range.0 range.1
