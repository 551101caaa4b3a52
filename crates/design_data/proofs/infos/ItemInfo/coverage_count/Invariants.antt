use Rattle.std.proofs.Common.{◌≡◌, ◌≤◌, take, filter, length}
use Rattle.design_data.specs.Bins.{is_coverage}
use Rattle.design_data.proofs.infos.ItemInfo.coverage_count.Given as goal

abbrev pub invariant-loop-bin : goal.invariant-loop-bin
invariant-loop-bin l = record {
  few : l.count ≤ l.bin-index;
  so_far : l.count ≡ length (filter (λ bin. is_coverage bin.kind) (take l.bin-index l.self.bins));
}
