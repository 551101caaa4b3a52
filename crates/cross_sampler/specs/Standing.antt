-- What a cross keeps along the samples of its instance.
use Rattle.std.specs.Prelude.{◌≡◌, ◌↔◌, ℕ, ◌+◌, ◌-◌, ◌^◌, ◌<◌, ◌≤◌, List, [], ◌∷◌, length, slice_index, slice_index_or, slice_get, Some}
use Rattle.std.specs.List.{All, AllByRecursion, Contains, flat_map}
use Rattle.cov_spec.specs.Number.{Number}
use Rattle.design_data.specs.declared.infos.ItemInfo.{ItemInfo}
use Rattle.design_data.specs.declared.infos.BinInfo.{BinInfo}
use Rattle.record_codec.specs.Samples.{Env}
use Rattle.cov_counting.specs.Crosses.{MemberHitAt, CrossHitAt}
use Rattle.std.specs.Global.{Vec}
use Rattle.design_data.specs.Bins.{sizes_of}
use Rattle.cross_sampler.specs.Numbers.{product_at, numbers_of, row_at, hits_of}
use Rattle.cross_sampler.specs.Once.{Once, HasRoom, IsOutside, guard_at}
use Rattle.cross_sampler.specs.Plans.{bins_with}
use Rattle.cross_sampler.specs.declared.state.CrossState.{CrossState}

-- the m-th sample of all has these values, and its number can be told
pub record IsSample (all : List Env) (m : ℕ) (env : Env) : Type 0 where
  pub within : m < length all
  pub few : m < 2 ^ 32 - 1
  pub is : slice_index_or all m [] ≡ env

-- The row of each of the points at these indexes has the numbers of the point's coverage bins that are hit at the m-th
-- sample.
abbrev pub AreHit : List ItemInfo → (axes : List ℕ) → List (Vec ℕ) → List Env → ℕ → Type 0
AreHit items axes rows all m = AllByRecursion (λ axis. (number : ℕ) → Contains (row_at rows axis) number ↔ MemberHitAt (slice_get items axis) number all m) axes

-- the counts of a cross's bins after the first m samples, at their numbers
abbrev pub CrossCounted : List ItemInfo → ItemInfo → (axes : List ℕ) → List Env → ℕ → (counts : List ℕ) → Type 0
CrossCounted items item axes all m counts = (b : ℕ) (bin : BinInfo) → slice_get item.bins b ≡ Some bin
    → Number (CrossHitAt items item axes bin all) m (slice_index counts (item.first_bin + b))

-- What a cross keeps, and its counts, after the first m samples: no bin bears the mark of a sample to come.
pub record CrossStands (items : List ItemInfo) (item : ItemInfo) (axes : List ℕ) (all : List Env) (m : ℕ) (state : CrossState) (counts : List ℕ) : Type 0 where
  pub samples : state.samples ≡ m
  pub marks : All (λ stamp. stamp ≤ m) state.stamps.items
  pub counted : CrossCounted items item axes all m counts

-- The sample m is taken: what the cross keeps and its counts are those of one sample more, and no other count changed.
pub record Taken (items : List ItemInfo) (item : ItemInfo) (axes : List ℕ) (all : List Env) (m : ℕ) (old_counts : List ℕ) (new : CrossState) (new_counts : List ℕ) : Type 0 where
  pub stands : CrossStands items item axes all (m + 1) new new_counts
  pub others : (number : ℕ) → IsOutside item.first_bin (length item.bins) number → slice_index new_counts number ≡ slice_index old_counts number

-- What a call takes: each sample with these values at which the rows have what is hit, where the cross stands before it.
abbrev pub TakesSample : (sizes : List ℕ) → ItemInfo → (axes : List ℕ) → Env → List (Vec ℕ) → (old : CrossState) (old_counts : List ℕ) (new : CrossState) (new_counts : List ℕ) → Type 0
TakesSample sizes item axes env rows old old_counts new new_counts = (items : List ItemInfo) (all : List Env) (m : ℕ) → sizes ≡ sizes_of items axes → IsSample all m env
    → AreHit items axes rows all m → CrossStands items item axes all m old old_counts → Taken items item axes all m old_counts new new_counts

-- ---- one sample, step by step

-- the bins of the products of these numbers
abbrev pub visited : List BinInfo → (sizes numbers : List ℕ) → List ℕ
visited bins sizes numbers = flat_map (λ number. bins_with bins (product_at sizes number) (length bins)) numbers

-- the bins of all products made of the bins that are hit
abbrev pub hit_bins : List BinInfo → (sizes : List ℕ) → List (Vec ℕ) → (axes : List ℕ) → List ℕ
hit_bins bins sizes rows axes = visited bins sizes (numbers_of (0 ∷ []) sizes (hits_of rows axes))

abbrev pub Raises : List BinInfo → (first : ℕ) → Env → (mark : ℕ) → (hit stamps counts stamps' counts' : List ℕ) → Type 0
Raises bins first env mark hit stamps counts stamps' counts' = HasRoom first mark stamps counts → Once (guard_at bins env) first mark hit stamps counts stamps' counts'
