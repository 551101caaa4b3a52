use Rattle.std.proofs.Common.{◌≡◌, List, ℕ, true, subst, sym}
use Rattle.std.specs.Prelude.{IfOk, ◌↔◌}
use Rattle.design_data.specs.declared.infos.ItemShape.{ItemShape}
use Rattle.cov_counting.specs.Crosses.{CrossHitAt}
use Rattle.cov_counting.specs.Tallies.{ShapeHit}
use Rattle.cov_counting.proofs.tally.is_bin_hit.Goals as goal

pub returns-in-Point : goal.returns-in-Point
returns-in-Point c = subst (λ (s : ItemShape). IfOk c.is_hit.result (λ hit. (hit ≡ true) ↔ ShapeHit c.args.items.now c.args.item.now s c.args.bin.now c.args.samples.now c.args.k)) (sym c.in-Point.is) c.is_hit.ensures

pub returns-in-Cross : goal.returns-in-Cross
returns-in-Cross c =
    let hit = subst (λ (a : List ℕ). IfOk c.is_cross_hit.result (λ hit. (hit ≡ true) ↔ CrossHitAt c.args.items.now c.args.item.now a c.args.bin.now c.args.samples.now c.args.k)) c.as_slice.ensures c.is_cross_hit.ensures in
    subst (λ (s : ItemShape). IfOk c.is_cross_hit.result (λ hit. (hit ≡ true) ↔ ShapeHit c.args.items.now c.args.item.now s c.args.bin.now c.args.samples.now c.args.k)) (sym c.in-Cross.is) hit
