use Rattle.std.proofs.Common.{◌≡◌, ℕ, length, Some}
use Rattle.std.specs.Prelude.{slice_get}
use Rattle.design_data.specs.declared.infos.ItemInfo.{ItemInfo}
use Rattle.sampler_plans.specs.declared.plan.ItemPlan.{ItemPlan}
use Rattle.sampler.specs.declared.lists.QuickItem.{QuickItem}
use Rattle.sampler.specs.Quick.{IsQuickItem, AreKept}
use Rattle.sampler.proofs.quick.quick_items.Given as goal

abbrev pub invariant-loop-i : goal.invariant-loop-i
invariant-loop-i l = record {
  same : length l.list.items ≡ l.i;
  quick : (i k : ℕ) (item : ItemInfo) (p : ItemPlan) (quick : QuickItem) → slice_get l.chosen i ≡ Some k → slice_get l.items k ≡ Some item → slice_get l.plans k ≡ Some p → slice_get l.list.items i ≡ Some quick → IsQuickItem l.exprs.items item p quick;
  kept : AreKept l.initial.exprs.items l.exprs.items;
}
