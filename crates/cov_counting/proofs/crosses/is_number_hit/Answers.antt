use Rattle.std.proofs.Common.{◌≡◌, Option, true, refl, subst, sym}
use Rattle.std.specs.Prelude.{IfOk, ◌↔◌}
use Rattle.design_data.specs.declared.infos.BinInfo.{BinInfo}
use Rattle.design_data.specs.declared.infos.ItemShape.{ItemShape}
use Rattle.cov_counting.specs.Crosses.{SomeHitAt, NumberHitAt}
use Rattle.cov_counting.proofs.Windows.{no}
use Rattle.cov_counting.proofs.crosses.is_number_hit.Goals as goal

pub returns-in-Some : goal.returns-in-Some
returns-in-Some c =
    subst (λ (s : ItemShape). IfOk c.is_hit.result (λ hit. (hit ≡ true) ↔ NumberHitAt c.args.item.now s c.args.number c.args.samples.now c.args.k)) (sym c.in-Point.is)
    (subst (λ (o : Option BinInfo). IfOk c.is_hit.result (λ hit. (hit ≡ true) ↔ SomeHitAt c.args.item.now c.in-Point.expr o c.args.samples.now c.args.k)) c.in-Some.ensures c.is_hit.ensures)

pub returns-in-None : goal.returns-in-None
returns-in-None c = no _ refl (λ h.
    subst (λ (o : Option BinInfo). SomeHitAt c.args.item.now c.in-Point.expr o c.args.samples.now c.args.k) (sym c.in-None.ensures)
    (subst (λ (s : ItemShape). NumberHitAt c.args.item.now s c.args.number c.args.samples.now c.args.k) c.in-Point.is h))

pub returns-in-Cross : goal.returns-in-Cross
returns-in-Cross c = no _ refl (λ h. subst (λ (s : ItemShape). NumberHitAt c.args.item.now s c.args.number c.args.samples.now c.args.k) c.in-Cross.is h)
