use Rattle.std.proofs.Common.{◌≡◌, Option, Some, true, subst, sym, refl, length, arith}
use Rattle.std.specs.Prelude.{IfOk, ◌↔◌, slice_get}
use Rattle.std.proofs.lemmas.Option.{slice_get_read, slice_get_past}
use Rattle.design_data.specs.declared.infos.ItemInfo.{ItemInfo}
use Rattle.cov_counting.specs.Crosses.{MemberHitAt}
use Rattle.cov_counting.proofs.Windows.{no}
use Rattle.cov_counting.proofs.crosses.is_member_hit.Goals as goal

pub returns-then-index-items : goal.returns-then-index-items
returns-then-index-items c = no _ refl (λ h. subst (λ (o : Option ItemInfo). MemberHitAt o c.args.number c.args.samples.now c.args.k) (slice_get_past c.args.items.now c.args.axis (omega arith)) h)

pub returns : goal.returns
returns c =
    let is : slice_get c.args.items.now c.args.axis ≡ Some c.index-items-index.result = slice_get_read c.args.items.now (length c.args.items.now) c.args.axis c.index-items-index.result refl (omega arith) c.index-items-index.is in
    subst (λ (o : Option ItemInfo). IfOk c.is_number_hit.result (λ hit. (hit ≡ true) ↔ MemberHitAt o c.args.number c.args.samples.now c.args.k)) (sym is) c.is_number_hit.ensures
