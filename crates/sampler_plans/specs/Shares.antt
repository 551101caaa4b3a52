-- How the items of a design are shared among parts of the work: by labels, one for each item of each instance.
use Rattle.std.specs.Prelude.{◌≡◌, ℕ, ◌%◌, ◌==◌, List, [], length, filter, slice_get, slice_index, slice_index_or, Some}
use Rattle.std.specs.List.{AllByRecursion, range_with_len}
use Rattle.design_data.specs.declared.infos.ItemInfo.{ItemInfo}
use Rattle.design_data.specs.declared.infos.InstInfo.{InstInfo}
use Rattle.design_data.specs.declared.infos.BinInfo.{BinInfo}
use Rattle.design_data.specs.declared.infos.ItemShape.{ItemShape}
use Rattle.design_data.specs.declared.infos.ItemShape.TheVariants.{Point, Cross}
use Rattle.design_data.specs.declared.design.Design.{Design}
use Rattle.record_codec.specs.Samples.{samples_of}
use Rattle.record_codec.specs.declared.record.Record.{Record}
use Rattle.cov_counting.specs.Tallies.{IsBin, IsCount}

-- the labels of an instance's items; each that is missing is 0
abbrev pub labels_at : List (List ℕ) → ℕ → List ℕ
labels_at labels instance = slice_index_or labels instance []

-- the indexes of those of so many items that belong to this part
abbrev pub chosen_items : (labels : List ℕ) → (parts part count : ℕ) → List ℕ
chosen_items labels parts part count = filter (λ index. slice_index labels index % parts == part) (range_with_len 0 count)

-- the share of a part: those of the items of each instance that belong to it
pub record IsShareOf (instances : List InstInfo) (labels : List (List ℕ)) (parts part : ℕ) (share : List (List ℕ)) : Type 0 where
  pub same : length share ≡ length instances
  pub at : (j : ℕ) (inst : InstInfo) (chosen : List ℕ) → slice_get instances j ≡ Some inst → slice_get share j ≡ Some chosen → chosen ≡ chosen_items (labels_at labels j) parts part (length inst.items)

-- a cross has the label of each of its points
abbrev pub IsTogether : (labels : List ℕ) → (index : ℕ) → ItemShape → Type 0
IsTogether labels index (Point expr) = Unit {0}
IsTogether labels index (Cross axes) = AllByRecursion (λ axis. slice_index labels axis ≡ slice_index labels index) axes

abbrev pub AreItemsTogether : List ItemInfo → (labels : List ℕ) → Type 0
AreItemsTogether items labels = (k : ℕ) (item : ItemInfo) → slice_get items k ≡ Some item → IsTogether labels k item.shape

abbrev pub AreTogether : List InstInfo → (labels : List (List ℕ)) → Type 0
AreTogether instances labels = (j : ℕ) (inst : InstInfo) → slice_get instances j ≡ Some inst → AreItemsTogether inst.items (labels_at labels j)

-- the part that the item of a bin belongs to
abbrev pub part_of : (labels : List (List ℕ)) → (parts instance index : ℕ) → ℕ
part_of labels parts instance index = slice_index (labels_at labels instance) index % parts

-- The counts of a part: those of the bins of its items, and 0 for all others.
pub record IsPartTally (d : Design) (r : Record) (labels : List (List ℕ)) (parts part : ℕ) (counts : List ℕ) : Type 0 where
  pub same : length counts ≡ d.bin_count
  pub at : (instance : ℕ) (inst : InstInfo) (item : ItemInfo) (bin : BinInfo) (number : ℕ) (b : IsBin d instance inst item bin number) → part_of labels parts instance b.item_index ≡ part
      → IsCount inst.items item bin (samples_of r instance) (slice_index counts number)
  pub others : (instance : ℕ) (inst : InstInfo) (item : ItemInfo) (bin : BinInfo) (number : ℕ) (b : IsBin d instance inst item bin number) → (part_of labels parts instance b.item_index ≡ part → ⊥)
      → slice_index counts number ≡ 0
