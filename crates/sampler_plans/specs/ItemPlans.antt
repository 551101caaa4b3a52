-- Of what item a plan is.
use Rattle.std.specs.Prelude.{◌≡◌, ℕ, List, slice_get, Some}
use Rattle.std.specs.List.{AllByRecursion}
use Rattle.design_data.specs.declared.infos.ItemInfo.{ItemInfo}
use Rattle.design_data.specs.declared.infos.ItemShape.{ItemShape}
use Rattle.design_data.specs.declared.infos.ItemShape.TheVariants.{Point, Cross}
use Rattle.design_data.specs.Bins.{sizes_of}
use Rattle.design_data.specs.Limits.{IsPointIndex}
use Rattle.point_sampler.specs.Plans as points
use Rattle.point_sampler.specs.Tables.{IsPoint}
use Rattle.cross_sampler.specs.Plans as crosses
use Rattle.sampler_plans.specs.declared.plan.ItemPlan.{ItemPlan}
use Rattle.sampler_plans.specs.declared.plan.ItemPlan.TheVariants as plan

-- the plan is that of a point
abbrev pub IsPointPlan : ItemInfo → ItemPlan → Type 0
IsPointPlan item (plan.Point p) = IsPoint item × points.IsPlanOf item p
IsPointPlan item (plan.Cross p) = ⊥

-- the plan is that of a cross of the points at these indexes
abbrev pub IsCrossPlan : List ItemInfo → ItemInfo → (axes : List ℕ) → ItemPlan → Type 0
IsCrossPlan items item axes (plan.Point p) = ⊥
IsCrossPlan items item axes (plan.Cross p) = crosses.IsPlan item.bins p × (p.sizes ≡ sizes_of items axes) × AllByRecursion (IsPointIndex items) axes

-- the plan is that of the item, by its shape
abbrev pub IsPlanOf : List ItemInfo → ItemInfo → ItemShape → ItemPlan → Type 0
IsPlanOf items item (Point expr) p = IsPointPlan item p
IsPlanOf items item (Cross axes) p = IsCrossPlan items item axes p

abbrev pub ArePlans : List ItemInfo → List ItemPlan → Type 0
ArePlans items plans = (k : ℕ) (item : ItemInfo) (p : ItemPlan) → slice_get items k ≡ Some item → slice_get plans k ≡ Some p → IsPlanOf items item item.shape p
