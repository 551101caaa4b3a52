-- Lists of parts that are each within their limits.
use Rattle.std.specs.Prelude.{◌≡◌, ℕ, ◌+◌, ◌^◌, ◌≤◌, List, length, All, Option, Some, None}
use Rattle.std.specs.List.{AllByRecursion}
use Rattle.cov_ground.specs.Limits.{most_bins, most_ranges}
use Rattle.trans_seq.specs.declared.seq.Item.{Item}
use Rattle.trans_seq.specs.declared.seq.Seq.{Seq}
use Rattle.design_data.specs.declared.infos.Signal.{Signal}
use Rattle.design_data.specs.declared.infos.ItemInfo.{ItemInfo}
use Rattle.design_data.specs.declared.infos.InstInfo.{InstInfo}
use Rattle.design_data.specs.declared.infos.BinInfo.{BinInfo}
use Rattle.design_data.specs.Bins.{total, bins_in, IsNumberedFrom}
use Rattle.design_data.specs.Limits.{HasWidth, ranges_of, IsPointRule, IsCrossRule, IsItem, IsInstance}

abbrev pub AreSignalsWide : List Signal → Type 0
AreSignalsWide signals = AllByRecursion (λ (signal : Signal). HasWidth signal.width) signals

abbrev pub AreItemsShort : List Item → Type 0
AreItemsShort items = AllByRecursion (λ (item : Item). length item.set ≤ most_ranges) items

abbrev pub ArePointRules : ItemInfo → List BinInfo → Type 0
ArePointRules item bins = AllByRecursion (λ (bin : BinInfo). IsPointRule item bin.kind bin.rule) bins

abbrev pub AreCrossRules : List ℕ → (all bins : List BinInfo) → Type 0
AreCrossRules sizes all bins = AllByRecursion (λ (bin : BinInfo). IsCrossRule sizes all bin.kind bin.rule) bins

abbrev pub HaveFewBins : List ItemInfo → Type 0
HaveFewBins items = All (λ (item : ItemInfo). length item.bins ≤ most_bins) items

abbrev pub AreItems : (all items : List ItemInfo) → Type 0
AreItems all items = AllByRecursion (IsItem all) items

abbrev pub AreInstances : ℕ → List InstInfo → Type 0
AreInstances groups instances = AllByRecursion (IsInstance groups) instances

-- the number behind the last bin of items whose bins are numbered from a number on; None where they aren't
abbrev pub EndsAt : ℕ → List ItemInfo → Option ℕ → Type 0
EndsAt first items None = IsNumberedFrom first items → ⊥
EndsAt first items (Some end) = IsNumberedFrom first items × (end ≡ first + bins_in items)

-- the intervals of items, of sequences and of bins
abbrev pub ranges_of_items : List Item → ℕ
ranges_of_items items = total (λ (item : Item). length item.set) items

abbrev pub ranges_of_seqs : List Seq → ℕ
ranges_of_seqs seqs = total (λ (seq : Seq). total (λ (item : Item). length item.set) seq.items) seqs

abbrev pub ranges_of_bins : List BinInfo → ℕ
ranges_of_bins bins = total (λ (bin : BinInfo). ranges_of bin.rule) bins

-- the numbers of bins are of four bytes each, and no list has 2^63 elements
abbrev pub most_end : ℕ
most_end = 2 ^ 32 + 2 ^ 63
