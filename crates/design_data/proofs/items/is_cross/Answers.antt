use Rattle.std.proofs.Common.{arith}
use Rattle.design_data.proofs.Answering.{same}
use Rattle.design_data.proofs.Parts.{if_ok}
use Rattle.design_data.proofs.items.is_cross.Goals as goal

pub returns : goal.returns
returns c =
    let made = rw (c.as_slice.ensures, c.in_ok-sizes.ensures) at c.are_of_cross.ensures in
    if_ok _ _ c.are_of_cross.result (λ b h. same b h (λ p. record { few = omega (arith, c.if-axes-gt-MOST_POINTS.false); points = c.are_points.ensures.0 c.if-not-are_points.false; few_products = p.0; rules = p.1 }) (λ k. (k.few_products, k.rules))) made
