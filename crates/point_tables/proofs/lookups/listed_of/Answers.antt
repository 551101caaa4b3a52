use Rattle.point_tables.proofs.Keyed.{none_listed}
use Rattle.point_tables.proofs.lookups.listed_of.Goals as goal

pub loop-bin-init : goal.loop-bin-init
loop-bin-init c = λ v. none_listed c.new-ranges.result.items v c.new-ranges.ensures.items
