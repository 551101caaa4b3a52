use Rattle.std.proofs.Common.{◌≡◌, ℕ, ◌+◌, ◌<◌, Some}
use Rattle.std.specs.Prelude.{slice_get, slice_index}
use Rattle.design_data.specs.declared.infos.BinInfo.{BinInfo}
use Rattle.cov_counting.specs.Tallies.{IsCount}
use Rattle.cov_counting.specs.Steps.{Extends}
use Rattle.cov_counting.proofs.tally.add_item.Given as goal

abbrev pub invariant-loop-bin : goal.invariant-loop-bin
invariant-loop-bin l = record {
  extends : Extends l.initial.counts l.counts l.bin-index;
  done : (k : ℕ) (bin : BinInfo) → k < l.bin-index → slice_get l.item.bins k ≡ Some bin → IsCount l.items l.item bin l.samples (slice_index l.counts (l.item.first_bin + k));
}
