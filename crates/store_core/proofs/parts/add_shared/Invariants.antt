use Rattle.std.proofs.Common.{◌≡◌, ◌++◌, map, take}
use Rattle.std.specs.Arc.{arc_value}
use Rattle.store_core.proofs.parts.add_shared.Given as goal

abbrev pub invariant-loop-tally : goal.invariant-loop-tally
invariant-loop-tally l = map arc_value l.all.items ≡ map arc_value l.initial.all.items ++ map arc_value (take l.tally-index l.tallies)
