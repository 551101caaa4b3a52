-- What is worked out of a design.
use Rattle.std.specs.Prelude.{◌≡◌, ℕ, List, length, slice_get, Some}
use Rattle.design_data.specs.declared.infos.InstInfo.{InstInfo}
use Rattle.sampler_plans.specs.declared.plan.Plan.{Plan}
use Rattle.sampler_plans.specs.declared.plan.InstPlan.{InstPlan}
use Rattle.sampler_plans.specs.ItemPlans.{ArePlans}

-- the plan is that of the instance: one of each item
pub record IsInstPlan (inst : InstInfo) (p : InstPlan) : Type 0 where
  pub same : length p.items ≡ length inst.items
  pub each : ArePlans inst.items p.items

abbrev pub AreInstPlans : List InstInfo → List InstPlan → Type 0
AreInstPlans instances plans = (k : ℕ) (inst : InstInfo) (p : InstPlan) → slice_get instances k ≡ Some inst → slice_get plans k ≡ Some p → IsInstPlan inst p

-- the plan is that of these instances: one of each
pub record IsDesignPlan (instances : List InstInfo) (plan : Plan) : Type 0 where
  pub same : length plan.instances ≡ length instances
  pub each : AreInstPlans instances plan.instances
