-- What the items of an instance keep and count along its samples.
use Rattle.std.specs.Prelude.{◌≡◌, ℕ, ◌+◌, ◌-◌, ◌^◌, ◌<◌, ◌≤◌, List, [], length, drop, slice_get, slice_index, slice_index_or, Some, true}
use Rattle.std.specs.List.{AllByRecursion}
use Rattle.std.specs.Global.{Vec}
use Rattle.const_eval.specs.Terms.{Term}
use Rattle.design_data.specs.declared.infos.ItemInfo.{ItemInfo}
use Rattle.design_data.specs.declared.infos.ItemShape.{ItemShape}
use Rattle.design_data.specs.declared.infos.ItemShape.TheVariants.{Point, Cross}
use Rattle.design_data.specs.Bins.{is_point, IsNumberedFrom}
use Rattle.record_codec.specs.Samples.{Env, envs_after, args_of, samples_of}
use Rattle.record_codec.specs.declared.record.Record.{Record}
use Rattle.record_codec.specs.declared.record.Event.{Event}
use Rattle.point_sampler.specs.Points as points_stand
use Rattle.cross_sampler.specs.Numbers.{row_at}
use Rattle.cross_sampler.specs.Known as crosses_known
use Rattle.cross_sampler.specs.Standing as crosses_stand
use Rattle.sampler_plans.specs.declared.plan.ItemPlan.{ItemPlan}
use Rattle.sampler_plans.specs.declared.plan.ItemPlan.TheVariants as plan
use Rattle.sampler.specs.declared.instance.ItemState.{ItemState}
use Rattle.sampler.specs.declared.instance.ItemState.TheVariants as kept

-- the m-th sample of all has these values
pub record IsSample (all : List Env) (m : ℕ) (env : Env) : Type 0 where
  pub within : m < length all
  pub few : m < 2 ^ 32 - 1
  pub is : slice_index_or all m [] ≡ env

-- ---- an item

-- what the item keeps has the form that its plan asks for
abbrev pub FitsItem : ItemInfo → ItemPlan → ItemState → Type 0
FitsItem item (plan.Point p) (kept.Point s) = points_stand.FitsPlan p s
FitsItem item (plan.Point p) (kept.Cross s) = ⊥
FitsItem item (plan.Cross p) (kept.Point s) = ⊥
FitsItem item (plan.Cross p) (kept.Cross s) = crosses_known.Fits item p s

-- what a point keeps, and its counts, after the first m samples
abbrev pub PointStands : ItemInfo → Term → List Env → ℕ → ItemPlan → ItemState → (counts : List ℕ) → Type 0
PointStands item expr all m (plan.Point p) (kept.Point s) counts = points_stand.PointStands item expr p all m s counts
PointStands item expr all m (plan.Point p) (kept.Cross s) counts = ⊥
PointStands item expr all m (plan.Cross p) s counts = ⊥

-- what a cross keeps, and its counts, after the first m samples
abbrev pub CrossStands : List ItemInfo → ItemInfo → (axes : List ℕ) → List Env → ℕ → ItemState → (counts : List ℕ) → Type 0
CrossStands items item axes all m (kept.Point s) counts = ⊥
CrossStands items item axes all m (kept.Cross s) counts = crosses_stand.CrossStands items item axes all m s counts

-- what the item keeps, and its counts, after the first m samples
abbrev pub Stands : List ItemInfo → ItemInfo → List Env → ℕ → ItemShape → ItemPlan → ItemState → (counts : List ℕ) → Type 0
Stands items item all m (Point expr) p s counts = PointStands item expr all m p s counts
Stands items item all m (Cross axes) p s counts = CrossStands items item axes all m s counts

-- how many samples an item has taken when the points have taken one more than the crosses
abbrev pub point_first : ItemShape → ℕ → ℕ
point_first (Point expr) m = m + 1
point_first (Cross axes) m = m

-- the row of a point has the coverage bins that are hit at the m-th sample
abbrev pub RowStands : ItemInfo → List Env → ℕ → ItemShape → (row : List ℕ) → Type 0
RowStands item all m (Point expr) row = points_stand.RowStands item expr all m row
RowStands item all m (Cross axes) row = Unit {0}

-- ---- the items of an instance

-- the items' bins are numbered without a gap, and the counts have room for them
pub record AreNumbered (items : List ItemInfo) (counts : ℕ) : Type 0 where
  pub first : ℕ
  pub numbered : IsNumberedFrom first items
  pub room : (k : ℕ) (item : ItemInfo) → slice_get items k ≡ Some item → item.first_bin + length item.bins ≤ counts

-- ---- the items that a walk takes along, by their indexes

-- the item at this index is taken along
abbrev pub IsChosen : (chosen : List ℕ) → ℕ → Type 0
IsChosen chosen k = (place : ℕ) × (slice_get chosen place ≡ Some k)

-- with a cross its points are taken along
abbrev pub IsCovered : (chosen : List ℕ) → ItemShape → Type 0
IsCovered chosen (Point expr) = Unit {0}
IsCovered chosen (Cross axes) = AllByRecursion (IsChosen chosen) axes

-- all items that are taken along are points
abbrev pub ArePoints : List ItemInfo → (chosen : List ℕ) → Type 0
ArePoints items chosen = (i k : ℕ) (item : ItemInfo) → slice_get chosen i ≡ Some k → slice_get items k ≡ Some item → is_point item.shape ≡ true

-- items of the instance, each once, and with each cross its points
pub record AreChosen (items : List ItemInfo) (chosen : List ℕ) : Type 0 where
  pub once : (i j k : ℕ) → slice_get chosen i ≡ Some k → slice_get chosen j ≡ Some k → i ≡ j
  pub within : (i k : ℕ) → slice_get chosen i ≡ Some k → k < length items
  pub covered : (k : ℕ) (item : ItemInfo) → IsChosen chosen k → slice_get items k ≡ Some item → IsCovered chosen item.shape

-- each item that is taken along keeps what its plan asks for
pub record AllFit (items : List ItemInfo) (plans : List ItemPlan) (chosen : List ℕ) (states : List ItemState) : Type 0 where
  pub same_plans : length plans ≡ length items
  pub same : length states ≡ length chosen
  pub at : (i k : ℕ) (item : ItemInfo) (p : ItemPlan) (s : ItemState) → slice_get chosen i ≡ Some k → slice_get items k ≡ Some item → slice_get plans k ≡ Some p → FitsItem item p (slice_index_or states i s)

-- each of them stands after as many samples as its shape says
abbrev pub AllStand : List ItemInfo → List ItemPlan → (chosen : List ℕ) → List Env → (samples : ItemShape → ℕ) → List ItemState → (counts : List ℕ) → Type 0
AllStand items plans chosen all samples states counts = (i k : ℕ) (item : ItemInfo) (p : ItemPlan) (s : ItemState) → slice_get chosen i ≡ Some k → slice_get items k ≡ Some item → slice_get plans k ≡ Some p
    → Stands items item all (samples item.shape) item.shape p (slice_index_or states i s) counts

-- the rows of the points among them have what is hit at the m-th sample
abbrev pub RowsStand : List ItemInfo → (chosen : List ℕ) → List Env → ℕ → List (Vec ℕ) → Type 0
RowsStand items chosen all m rows = (k : ℕ) (item : ItemInfo) → IsChosen chosen k → slice_get items k ≡ Some item → RowStands item all m item.shape (row_at rows k)

-- the counts at the numbers that are those of no bin of the item are as before
abbrev pub KeepsOthers : ItemInfo → (old new : List ℕ) → Type 0
KeepsOthers item old new = (number : ℕ) → points_stand.IsOutside item number → slice_index new number ≡ slice_index old number

-- the same of the numbers that are those of no bin of the items that are taken along
abbrev pub KeepsOutside : List ItemInfo → (chosen : List ℕ) → (old new : List ℕ) → Type 0
KeepsOutside items chosen old new = (number : ℕ) → ((k : ℕ) (item : ItemInfo) → IsChosen chosen k → slice_get items k ≡ Some item → points_stand.IsOutside item number) → slice_index new number ≡ slice_index old number

-- a cross has taken a sample, and the counts of no other item changed
pub record CrossTaken (items : List ItemInfo) (item : ItemInfo) (axes : List ℕ) (all : List Env) (samples : ℕ) (old_counts : List ℕ) (new : ItemState) (new_counts : List ℕ) : Type 0 where
  pub cross_stands : CrossStands items item axes all samples new new_counts
  pub cross_others : KeepsOthers item old_counts new_counts

-- an item has taken one more sample, and the counts of no other changed
pub record ItemTaken (items : List ItemInfo) (item : ItemInfo) (all : List Env) (samples : ℕ) (p : ItemPlan) (old_counts : List ℕ) (new : ItemState) (new_counts : List ℕ) : Type 0 where
  pub stands : Stands items item all samples item.shape p new new_counts
  pub others : KeepsOthers item old_counts new_counts

-- the items before place t have taken a sample, the others haven't yet
pub record SomeTaken (items : List ItemInfo) (plans : List ItemPlan) (chosen : List ℕ) (all : List Env) (before after : ItemShape → ℕ) (t : ℕ) (old_counts : List ℕ) (states : List ItemState) (counts : List ℕ) : Type 0 where
  pub done : (i k : ℕ) (item : ItemInfo) (p : ItemPlan) (s : ItemState) → i < t → slice_get chosen i ≡ Some k → slice_get items k ≡ Some item → slice_get plans k ≡ Some p → Stands items item all (after item.shape) item.shape p (slice_index_or states i s) counts
  pub left : (i k : ℕ) (item : ItemInfo) (p : ItemPlan) (s : ItemState) → t ≤ i → slice_get chosen i ≡ Some k → slice_get items k ≡ Some item → slice_get plans k ≡ Some p → Stands items item all (before item.shape) item.shape p (slice_index_or states i s) counts
  pub outside : KeepsOutside items chosen old_counts counts

-- all items have taken one more sample, and the counts of no others changed
pub record AllTaken (items : List ItemInfo) (plans : List ItemPlan) (chosen : List ℕ) (all : List Env) (after : ItemShape → ℕ) (old_counts : List ℕ) (states : List ItemState) (counts : List ℕ) : Type 0 where
  pub stand : AllStand items plans chosen all after states counts
  pub outside : KeepsOutside items chosen old_counts counts

-- ---- along the events

-- Where an instance stands between the events before, latest first, and those that are left.
pub record InstAt (r : Record) (instance : ℕ) (items : List ItemInfo) (plans : List ItemPlan) (chosen : List ℕ) (before events : List Event) (states : List ItemState) (counts : List ℕ) : Type 0 where
  pub m : ℕ
  pub within : m ≤ length (samples_of r instance)
  pub few : m ≤ length before
  pub left : drop m (samples_of r instance) ≡ envs_after r.signals (args_of (slice_get r.instances instance)) instance before events
  pub stands : AllStand items plans chosen (samples_of r instance) (λ shape. m) states counts

-- an instance has taken one more event, and the counts of no others changed
pub record InstTaken (r : Record) (instance : ℕ) (items : List ItemInfo) (plans : List ItemPlan) (chosen : List ℕ) (before events : List Event) (old_counts : List ℕ) (states : List ItemState) (counts : List ℕ) : Type 0 where
  pub at : InstAt r instance items plans chosen before events states counts
  pub outside : KeepsOutside items chosen old_counts counts
