use Rattle.std.proofs.Common.{◌≡◌, ℕ, ◌<◌, Some, length, take, drop}
use Rattle.std.specs.Prelude.{slice_get}
use Rattle.design_data.specs.declared.infos.ItemInfo.{ItemInfo}
use Rattle.design_data.specs.Bins.{bins_in, IsNumberedFrom}
use Rattle.cov_counting.specs.Steps.{Extends, ItemDone}
use Rattle.cov_counting.proofs.tally.add_items.Given as goal

abbrev pub invariant-loop-item : goal.invariant-loop-item
invariant-loop-item l = record {
  next : IsNumberedFrom (length l.counts) (drop l.item-index l.items);
  extends : Extends l.initial.counts l.counts (bins_in (take l.item-index l.items));
  done : (k : ℕ) (item : ItemInfo) → k < l.item-index → slice_get l.items k ≡ Some item → ItemDone l.items item l.samples l.counts;
}
