use Rattle.std.proofs.Common.{◌≡◌, ◌*◌, map, drop, reverse}
use Rattle.bin_spec.specs.Parts.{part, places}
use Rattle.cov_base.specs.Sets.{set_of, written}
use Rattle.value_bins.proofs.arrays.sets_of.Given as goal

abbrev pub invariant-loop-bin : goal.invariant-loop-bin
invariant-loop-bin l = record {
  sets : l.sets.items ≡ map set_of (map (part (written l.ranges) l.n) (places l.bin));
  rest : written (reverse l.rest.items) ≡ drop (l.bin * l.share) (written l.ranges);
}
