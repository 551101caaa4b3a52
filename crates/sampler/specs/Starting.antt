-- What stands before the first sample.
use Rattle.std.specs.Prelude.{◌≡◌, ℤ, ℕ, ◌+◌, ◌<◌, List, length, slice_get, slice_index, slice_index_or, Option, Some, None}
use Rattle.design_data.specs.declared.infos.ItemInfo.{ItemInfo}
use Rattle.design_data.specs.declared.infos.InstInfo.{InstInfo}
use Rattle.record_codec.specs.Samples.{Env}
use Rattle.sampler_plans.specs.declared.plan.InstPlan.{InstPlan}
use Rattle.sampler.specs.declared.instance.InstState.{InstState}
use Rattle.sampler.specs.Standing.{AllStand}

-- the counts of the item's bins are 0
abbrev pub IsZeroAt : ItemInfo → (counts : List ℕ) → Type 0
IsZeroAt item counts = (b : ℕ) → b < length item.bins → slice_index counts (item.first_bin + b) ≡ 0

-- all counts are 0
abbrev pub AreAllZero : (counts : List ℕ) → Type 0
AreAllZero counts = (number : ℕ) → slice_index counts number ≡ 0

-- each instance stands before its first sample, whatever its samples are
abbrev pub AllInstStart : List InstInfo → List InstPlan → (share : List (List ℕ)) → (kept : List InstState) → (counts : List ℕ) → Type 0
AllInstStart instances plans share kept counts = (j : ℕ) (inst : InstInfo) (p : InstPlan) (chosen : List ℕ) (k : InstState) (all : List Env) → slice_get instances j ≡ Some inst → slice_get plans j ≡ Some p → slice_get share j ≡ Some chosen
    → AllStand inst.items p.items chosen all (λ shape. 0) (slice_index_or kept j k).states.items counts

-- nothing is known of any signal or argument
abbrev pub AreUnknown : List (Option ℤ) → Type 0
AreUnknown values = (place : ℕ) → slice_index_or values place None ≡ None
