use Rattle.std.proofs.Common.{take, map}
use Rattle.std.specs.Arc.{arc_value}
use Rattle.store_core.specs.Rebins.{AreSums}
use Rattle.store_core.proofs.counting.sums.Given as goal

abbrev pub invariant-loop-place : goal.invariant-loop-place
invariant-loop-place l = AreSums l.fn.design (take l.place (map arc_value l.records)) l.counts.items
