use Rattle.std.proofs.Common.{◌≡◌, ◌*◌, map, take}
use Rattle.std.specs.Arc.{arc_value}
use Rattle.store_core.specs.Rebins.{tallies_of}
use Rattle.store_core.proofs.parts.joined.Given as goal

abbrev pub invariant-loop-n : goal.invariant-loop-n
invariant-loop-n l = map arc_value l.all.items ≡ tallies_of l.design (map arc_value (take (l.n * l.size) l.records))
