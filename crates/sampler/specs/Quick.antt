-- Instances whose points are counted by their values and the indexes of their bins alone. Public contracts cite none of it.
use Rattle.std.specs.Prelude.{◌≡◌, ◌⊎◌, ℕ, ◌<◌, ◌≤◌, List, [], All, map, length, slice_get, slice_index_or, None, Some}
use Rattle.std.specs.List.{slice_range}
use Rattle.const_eval.specs.Terms.{Term, typ_of}
use Rattle.design_data.specs.declared.infos.ItemInfo.{ItemInfo}
use Rattle.design_data.specs.declared.infos.ItemShape.TheVariants.{Point}
use Rattle.design_data.specs.declared.infos.InstInfo.{InstInfo}
use Rattle.record_codec.specs.Samples.{args_of}
use Rattle.record_codec.specs.declared.record.Record.{Record}
use Rattle.point_sampler.specs.Quick.{IsQuick, HasRoom}
use Rattle.sampler_plans.specs.declared.plan.ItemPlan.{ItemPlan}
use Rattle.sampler_plans.specs.declared.plan.ItemPlan.TheVariants as plan
use Rattle.sampler_plans.specs.declared.plan.InstPlan.{InstPlan}
use Rattle.sampler.specs.declared.lists.QuickItem.{QuickItem}
use Rattle.sampler.specs.declared.lists.QuickPlace.{QuickPlace}

-- ---- lists in one list

pub record Stands (items : List QuickItem) (place : QuickPlace) : Type 0 where
  pub ordered : place.from ≤ place.to
  pub inside : place.to ≤ length items

abbrev pub AllStand : List QuickItem → List QuickPlace → Type 0
AllStand items places = All (Stands items) places

abbrev pub lists_of : List QuickItem → List QuickPlace → List (List QuickItem)
lists_of items places = map (λ place. slice_range items place.from place.to) places

-- ---- what a quick item stands for

-- the item is a point of an expression that stands among these, has no guard, and its plan is quick
pub record IsQuickItem (exprs : List Term) (item : ItemInfo) (p : ItemPlan) (quick : QuickItem) : Type 0 where
  pub expr : Term
  pub is_expr : slice_get exprs quick.expr ≡ Some expr
  pub shape : item.shape ≡ Point expr
  pub unguarded : item.guard ≡ None
  pub first : item.first_bin ≡ quick.first_bin
  pub is_plan : p ≡ plan.Point quick.plan
  pub is_quick : IsQuick quick.plan (typ_of expr)

-- these are quick items of those that are taken along, in order
pub record AreQuick (exprs : List Term) (items : List ItemInfo) (plans : List ItemPlan) (chosen : List ℕ) (list : List QuickItem) : Type 0 where
  pub same : length list ≡ length chosen
  pub at : (i k : ℕ) (item : ItemInfo) (p : ItemPlan) (quick : QuickItem) → slice_get chosen i ≡ Some k → slice_get items k ≡ Some item → slice_get plans k ≡ Some p → slice_get list i ≡ Some quick → IsQuickItem exprs item p quick

-- the instance has no arguments, and each item that is taken along is quick
pub record IsQuickInst (r : Record) (j : ℕ) (exprs : List Term) (items : List ItemInfo) (plans : List ItemPlan) (chosen : List ℕ) (list : List QuickItem) : Type 0 where
  pub bare : args_of (slice_get r.instances j) ≡ []
  pub are : AreQuick exprs items plans chosen list

-- each of the instances before the n-th has no quick items, or all items that are taken along are quick
pub record AreQuickUpTo (n : ℕ) (r : Record) (instances : List InstInfo) (plans : List InstPlan) (share : List (List ℕ)) (exprs : List Term) (lists : List (List QuickItem)) : Type 0 where
  pub same : length lists ≡ n
  pub each : (j : ℕ) (inst : InstInfo) (p : InstPlan) (chosen : List ℕ) → j < n → slice_get instances j ≡ Some inst → slice_get plans j ≡ Some p → slice_get share j ≡ Some chosen
      → (slice_index_or lists j [] ≡ []) ⊎ IsQuickInst r j exprs inst.items p.items chosen (slice_index_or lists j [])

-- what counting a quick item needs: its expression stands there, and its bins have counts
pub record IsReady (exprs : List Term) (counts : ℕ) (quick : QuickItem) : Type 0 where
  pub expr : Term
  pub is_expr : slice_get exprs quick.expr ≡ Some expr
  pub is_quick : IsQuick quick.plan (typ_of expr)
  pub room : HasRoom quick.plan quick.first_bin counts

abbrev pub AreReady : List Term → ℕ → List QuickItem → Type 0
AreReady exprs counts list = (i : ℕ) (quick : QuickItem) → slice_get list i ≡ Some quick → IsReady exprs counts quick

-- what stands among the old expressions stands at the same place among the new ones
abbrev pub AreKept : (old new : List Term) → Type 0
AreKept old new = (k : ℕ) (expr : Term) → slice_get old k ≡ Some expr → slice_get new k ≡ Some expr
