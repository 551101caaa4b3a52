-- What is known of what is declared outside groups, and of the arguments of a sample function: limits and widths.
use Rattle.std.specs.Prelude.{◌≤◌, List, length}
use Rattle.std.specs.List.{AllByRecursion}
use Rattle.cov_ground.specs.Limits.{most_signals, most_arguments, most_bins}
use Rattle.design_data.specs.declared.infos.Signal.{Signal}
use Rattle.design_data.specs.Limits.{HasWidth}
use Rattle.cov_options.specs.declared.options.Options.{Options}
use Rattle.elab_decls.specs.declared.outside.Outside.{Outside}

abbrev pub HaveWidths : List Signal → Type 0
HaveWidths signals = AllByRecursion (λ signal. HasWidth signal.width) signals

pub record IsOutside (outside : Outside) : Type 0 where
  pub few : length outside.signals ≤ most_signals
  pub widths : HaveWidths outside.signals

pub record AreArguments (args : List Signal) : Type 0 where
  pub few : length args ≤ most_arguments
  pub widths : HaveWidths args

-- a bin has to be hit at least once to be covered, and a point may have 1 to 65,536 automatic bins
abbrev pub AreInRange : Options → Type 0
AreInRange options = (1 ≤ options.at_least) × (1 ≤ options.auto_bin_max) × (options.auto_bin_max ≤ most_bins)
