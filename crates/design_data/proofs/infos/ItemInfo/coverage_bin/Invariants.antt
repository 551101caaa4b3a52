use Rattle.std.proofs.Common.{◌≡◌, drop, filter}
use Rattle.std.specs.Prelude.{slice_get}
use Rattle.design_data.specs.Bins.{is_coverage, coverage_bins}
use Rattle.design_data.proofs.infos.ItemInfo.coverage_bin.Given as goal

abbrev pub invariant-loop-bin : goal.invariant-loop-bin
invariant-loop-bin l = slice_get (coverage_bins l.self) l.number ≡ slice_get (filter (λ bin. is_coverage bin.kind) (drop l.bin-index l.self.bins)) l.left
