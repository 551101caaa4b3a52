-- The counts of several parts of a design together.
use Rattle.std.specs.Prelude.{◌≡◌, ℕ, ◌<◌, ◌≤◌, List, length, slice_index}
use Rattle.design_data.specs.declared.infos.ItemInfo.{ItemInfo}
use Rattle.design_data.specs.declared.infos.InstInfo.{InstInfo}
use Rattle.design_data.specs.declared.infos.BinInfo.{BinInfo}
use Rattle.design_data.specs.declared.design.Design.{Design}
use Rattle.record_codec.specs.Samples.{samples_of}
use Rattle.record_codec.specs.declared.record.Record.{Record}
use Rattle.cov_counting.specs.Tallies.{IsBin, IsCount}
use Rattle.sampler.specs.Shares.{part_of}

-- The counts of the parts before this one: those of the bins of their items, and 0 for all others.
pub record IsMerged (d : Design) (r : Record) (labels : List (List ℕ)) (parts before : ℕ) (counts : List ℕ) : Type 0 where
  pub same : length counts ≡ d.bin_count
  pub at : (instance : ℕ) (inst : InstInfo) (item : ItemInfo) (bin : BinInfo) (number : ℕ) (b : IsBin d instance inst item bin number) → part_of labels parts instance b.item_index < before
      → IsCount inst.items item bin (samples_of r instance) (slice_index counts number)
  pub others : (instance : ℕ) (inst : InstInfo) (item : ItemInfo) (bin : BinInfo) (number : ℕ) (b : IsBin d instance inst item bin number) → before ≤ part_of labels parts instance b.item_index
      → slice_index counts number ≡ 0

-- the two numbers joined, where one of them is 0
pub record Joins (a b joined : ℕ) : Type 0 where
  pub left : b ≡ 0 → joined ≡ a
  pub right : a ≡ 0 → joined ≡ b

-- each number is that of the two lists joined, where one of them is 0
pub record AllJoin (a b joined : List ℕ) : Type 0 where
  pub same : length joined ≡ length a
  pub at : (number : ℕ) → Joins (slice_index a number) (slice_index b number) (slice_index joined number)
