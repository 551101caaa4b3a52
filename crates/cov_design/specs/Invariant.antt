-- What is known of what was declared: all limits hold, each bin has something left, and the counts are those of what was
-- declared.
use Rattle.std.specs.Prelude.{◌≡◌, ℕ, ◌<◌, ◌≤◌, length}
use Rattle.std.specs.List.{AllByRecursion}
use Rattle.cov_ground.specs.Limits.{most_instances, most_items, most_design_bins, most_design_ranges}
use Rattle.design_data.specs.declared.infos.InstInfo.{InstInfo}
use Rattle.design_data.specs.Bins.{bins_in, items_in, total}
use Rattle.design_data.specs.Limits.{IsItem, ranges_in}
use Rattle.elab_decls.specs.Invariant.{IsOutside, AreArguments}
use Rattle.cov_design.specs.declared.known.Known.{Known}

-- an instance of one of so many groups
pub record IsDeclared (groups : ℕ) (inst : InstInfo) : Type 0 where
  pub group : inst.group < groups
  pub args : AreArguments inst.args
  pub items : AllByRecursion (IsItem inst.items) inst.items

pub record IsKnown (known : Known) : Type 0 where
  pub outside : IsOutside known.outside
  pub instance_count : length known.instances ≤ most_instances
  pub each : AllByRecursion (IsDeclared (length known.groups)) known.instances
  pub items : known.counts.items ≡ items_in known.instances
  pub few_items : known.counts.items ≤ most_items
  pub bins : known.counts.bins ≡ total (λ inst. bins_in inst.items) known.instances
  pub few_bins : known.counts.bins ≤ most_design_bins
  pub ranges : known.counts.ranges ≡ total (λ inst. ranges_in inst.items) known.instances
  pub few_ranges : known.counts.ranges ≤ most_design_ranges
