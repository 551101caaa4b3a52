use Rattle.std.proofs.Common.{◌≡◌, map, take}
use Rattle.std.specs.Arc.{arc_value}
use Rattle.store_core.proofs.counting.shared_records.Given as goal

abbrev pub invariant-loop-content : goal.invariant-loop-content
invariant-loop-content l = map arc_value l.list.items ≡ map arc_value (take l.content-index l.records)
