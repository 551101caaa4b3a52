-- A design is its parts: that they are within its limits is one fact.
use Rattle.std.proofs.Common.{◌≡◌}
use mathlib.Core.HLevel.{is_prop→PathP}
use Rattle.design_data.specs.declared.design.Design.{Design}
use Rattle.design_data.specs.Limits.{IsDesign, IsDesign-prop}
use Rattle.cov_compile.specs.Elaboration.{parts_of}

pub design_is : (d e : Design) → parts_of d ≡ parts_of e → d ≡ e
design_is d e same = λ i. record {
  signals = (same i).signals;
  groups = (same i).groups;
  instances = (same i).instances;
  bin_count = (same i).bin_count;
  within = is_prop→PathP (λ j. IsDesign (same j).signals (same j).groups (same j).instances (same j).bin_count) (λ j. IsDesign-prop (same j).signals (same j).groups (same j).instances (same j).bin_count) d.within e.within i;
}
