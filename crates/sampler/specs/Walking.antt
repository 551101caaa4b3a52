-- What the instances of a design keep and count along the events of a record.
use Rattle.std.specs.Prelude.{◌≡◌, ◌≢◌, ◌⊎◌, ℕ, ◌+◌, ◌≤◌, List, length, slice_get, slice_index, slice_index_or, Some}
use Rattle.design_data.specs.declared.infos.ItemInfo.{ItemInfo}
use Rattle.design_data.specs.declared.infos.InstInfo.{InstInfo}
use Rattle.design_data.specs.declared.infos.BinInfo.{BinInfo}
use Rattle.record_codec.specs.Samples.{Env, samples_of}
use Rattle.record_codec.specs.declared.record.Record.{Record}
use Rattle.record_codec.specs.declared.record.Event.{Event}
use Rattle.cov_counting.specs.Tallies.{IsCount}
use Rattle.point_sampler.specs.Points.{IsOutside}
use Rattle.sampler_plans.specs.declared.plan.ItemPlan.{ItemPlan}
use Rattle.sampler_plans.specs.declared.plan.InstPlan.{InstPlan}
use Rattle.sampler_plans.specs.ItemPlans.{ArePlans}
use Rattle.sampler.specs.declared.instance.InstState.{InstState}
use Rattle.sampler.specs.Values.{Holds}
use Rattle.sampler.specs.Standing.{AreNumbered, AreChosen, IsChosen, AllFit, InstAt}

-- the bins of one item have numbers before those of the other
abbrev pub AreApart : ItemInfo → ItemInfo → Type 0
AreApart a b = (a.first_bin + length a.bins ≤ b.first_bin) ⊎ (b.first_bin + length b.bins ≤ a.first_bin)

-- bins of two instances have different numbers
abbrev pub AreAllApart : List InstInfo → Type 0
AreAllApart instances = (j k s t : ℕ) (x y : InstInfo) (a b : ItemInfo) → j ≢ k → slice_get instances j ≡ Some x → slice_get instances k ≡ Some y → slice_get x.items s ≡ Some a → slice_get y.items t ≡ Some b → AreApart a b

-- what a walk needs of an instance: the plans are those of its items, and there is a count for each bin
pub record IsInstWork (items : List ItemInfo) (plans : List ItemPlan) (chosen : List ℕ) (counts : ℕ) : Type 0 where
  pub same_plans : length plans ≡ length items
  pub are_plans : ArePlans items plans
  pub chosen_items : AreChosen items chosen
  pub numbered : AreNumbered items counts

-- what a walk needs of the instances of a design: the same of each, and that their bins have different numbers
pub record IsWork (instances : List InstInfo) (plans : List InstPlan) (share : List (List ℕ)) (counts : ℕ) : Type 0 where
  pub plan_count : length plans ≡ length instances
  pub share_count : length share ≡ length instances
  pub each : (j : ℕ) (inst : InstInfo) (p : InstPlan) (chosen : List ℕ) → slice_get instances j ≡ Some inst → slice_get plans j ≡ Some p → slice_get share j ≡ Some chosen → IsInstWork inst.items p.items chosen counts
  pub apart : AreAllApart instances

-- an instance keeps what the plans ask for, and has a row for each item
pub record InstFits (items : List ItemInfo) (plans : List ItemPlan) (chosen : List ℕ) (kept : InstState) : Type 0 where
  pub fits : AllFit items plans chosen kept.states.items
  pub rows : length kept.rows.items ≡ length items

pub record AllInstFit (instances : List InstInfo) (plans : List InstPlan) (share : List (List ℕ)) (kept : List InstState) : Type 0 where
  pub same : length kept ≡ length instances
  pub at : (j : ℕ) (inst : InstInfo) (p : InstPlan) (chosen : List ℕ) (k : InstState) → slice_get instances j ≡ Some inst → slice_get plans j ≡ Some p → slice_get share j ≡ Some chosen → InstFits inst.items p.items chosen (slice_index_or kept j k)

-- the counts at the numbers that are those of no bin of the share's items are as before
abbrev pub KeepsUnshared : List InstInfo → (share : List (List ℕ)) → (old new : List ℕ) → Type 0
KeepsUnshared instances share old new = (number : ℕ)
    → ((j k : ℕ) (inst : InstInfo) (chosen : List ℕ) (item : ItemInfo) → slice_get instances j ≡ Some inst → slice_get share j ≡ Some chosen → IsChosen chosen k → slice_get inst.items k ≡ Some item → IsOutside item number)
    → slice_index new number ≡ slice_index old number

-- each instance stands between the events before and those that are left
abbrev pub AllInstAt : Record → List InstInfo → List InstPlan → (share : List (List ℕ)) → (before events : List Event) → (kept : List InstState) → (counts : List ℕ) → Type 0
AllInstAt r instances plans share before events kept counts = (j : ℕ) (inst : InstInfo) (p : InstPlan) (chosen : List ℕ) (k : InstState) → slice_get instances j ≡ Some inst → slice_get plans j ≡ Some p → slice_get share j ≡ Some chosen
    → InstAt r j inst.items p.items chosen before events (slice_index_or kept j k).states.items counts

-- Where the walk stands between the events before, latest first, and those that are left.
pub record WalkAt (r : Record) (instances : List InstInfo) (plans : List InstPlan) (share : List (List ℕ)) (before events : List Event) (values : Env) (old_counts : List ℕ) (kept : List InstState) (counts : List ℕ) : Type 0 where
  pub holds : Holds r.signals before values
  pub outside : KeepsUnshared instances share old_counts counts
  pub each : AllInstAt r instances plans share before events kept counts

-- each bin of the share's items has its count over all samples, and the counts at other numbers are as before
pub record ShareCounted (r : Record) (instances : List InstInfo) (share : List (List ℕ)) (old_counts counts : List ℕ) : Type 0 where
  pub counted : (j k b : ℕ) (inst : InstInfo) (chosen : List ℕ) (item : ItemInfo) (bin : BinInfo) → slice_get instances j ≡ Some inst → slice_get share j ≡ Some chosen → IsChosen chosen k → slice_get inst.items k ≡ Some item
      → slice_get item.bins b ≡ Some bin → IsCount inst.items item bin (samples_of r j) (slice_index counts (item.first_bin + b))
  pub outside : KeepsUnshared instances share old_counts counts
