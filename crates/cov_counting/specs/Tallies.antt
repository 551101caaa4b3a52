-- How often each bin of a design is hit in a record: one count by definition for each bin (IEEE 1800-2017, 19.3 to
-- 19.6).
use Rattle.std.specs.Prelude.{◌≡◌, ℕ, ◌+◌, List, length, slice_get, slice_index, Some}
use Rattle.cov_spec.specs.Number.{Number}
use Rattle.design_data.specs.declared.infos.ItemInfo.{ItemInfo}
use Rattle.design_data.specs.declared.infos.InstInfo.{InstInfo}
use Rattle.design_data.specs.declared.infos.BinInfo.{BinInfo}
use Rattle.design_data.specs.declared.infos.ItemShape.{ItemShape}
use Rattle.design_data.specs.declared.infos.ItemShape.TheVariants.{Point, Cross}
use Rattle.design_data.specs.declared.design.Design.{Design}
use Rattle.record_codec.specs.Samples.{Env, samples_of}
use Rattle.cov_counting.specs.Hits.{HitAt}
use Rattle.cov_counting.specs.Crosses.{CrossHitAt}
use Rattle.record_codec.specs.declared.record.Record.{Record}

-- the bin is hit at the k-th sample, by the shape of its item
abbrev pub ShapeHit : List ItemInfo → ItemInfo → ItemShape → BinInfo → List Env → ℕ → Type 0
ShapeHit items item (Point expr) bin all k = HitAt item expr bin all k
ShapeHit items item (Cross axes) bin all k = CrossHitAt items item axes bin all k

-- the bin of an item of an instance with these items is hit at the k-th sample
abbrev pub Hit : List ItemInfo → ItemInfo → BinInfo → List Env → ℕ → Type 0
Hit items item bin all k = ShapeHit items item item.shape bin all k

-- count is the number of the samples at which the bin is hit
abbrev pub IsCount : List ItemInfo → ItemInfo → BinInfo → List Env → (count : ℕ) → Type 0
IsCount items item bin all count = Number (Hit items item bin all) (length all) count

-- a bin of the design, with its item, its instance and its number
pub record IsBin (d : Design) (instance : ℕ) (inst : InstInfo) (item : ItemInfo) (bin : BinInfo) (number : ℕ) : Type 0 where
  pub is_instance : slice_get d.instances instance ≡ Some inst
  pub item_index : ℕ
  pub is_item : slice_get inst.items item_index ≡ Some item
  pub bin_index : ℕ
  pub is_bin : slice_get item.bins bin_index ≡ Some bin
  pub is_number : number ≡ item.first_bin + bin_index

-- The tally of a design and a record: a count for each bin, at the bin's number.
pub record IsTally (d : Design) (r : Record) (counts : List ℕ) : Type 0 where
  pub same : length counts ≡ d.bin_count
  pub at : (instance : ℕ) (inst : InstInfo) (item : ItemInfo) (bin : BinInfo) (number : ℕ) → IsBin d instance inst item bin number
      → IsCount inst.items item bin (samples_of r instance) (slice_index counts number)
