use Rattle.std.proofs.Common.{◌≡◌, map}
use Rattle.cov_base.specs.Sets.{span, count_from}
use Rattle.bin_spec.specs.Parts.{places, part}
use Rattle.auto_bins.specs.Automatic.{AllInOrder}
use Rattle.auto_bins.proofs.ranges.spread_from.Given as goal

abbrev pub invariant-loop-bin : goal.invariant-loop-bin
invariant-loop-bin l = record {
  spread : map span l.ranges.items ≡ map (part (count_from l.low l.count) l.bins) (places l.bin);
  order : AllInOrder l.ranges.items;
}
