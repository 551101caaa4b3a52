use Rattle.std.proofs.Common.{◌≡◌, take}
use Rattle.std.specs.Prelude.{filter}
use Rattle.cov_history.specs.Nodes.{bins_under}
use Rattle.cov_history.specs.Coverage as meant
use Rattle.cov_history.specs.Flags.{flagged}
use Rattle.cov_history.proofs.covering.live_under.Given as goal

abbrev pub invariant-loop-bin : goal.invariant-loop-bin
invariant-loop-bin l = l.live.items ≡ filter (meant.is_live l.nodes (flagged l.excluded)) (take l.bin-index (bins_under l.nodes l.above))
